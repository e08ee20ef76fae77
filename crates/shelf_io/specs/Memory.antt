-- The state of a shelf in memory, its calls, and which of them fail.
use Rattle.std.specs.Prelude.{◌⊎◌, ℕ, ◌+◌, ◌-◌, ◌^◌, min, List, Contains, Result, IsErrOf, take, ◌/◌, length, Some, string_bytes}
use Rattle.shelf_io.specs.State.{ShelfState}
use Rattle.shelf_io.specs.Held.{files_of}
use Rattle.shelf_io.specs.declared.memory.MemShelf.{MemShelf}
use Rattle.shelf_io.specs.declared.shelf.Fetch.{Fetch}
use Rattle.shelf_io.specs.declared.shelf.Put.{Put}
use Rattle.shelf_io.specs.declared.shelf.Fetch.TheVariants as fetch
use Rattle.shelf_io.specs.declared.shelf.Put.TheVariants as put

-- its files and what was said are told
abbrev pub state_of : MemShelf → ShelfState
state_of shelf = record {
  files = Some (files_of shelf.files.items);
  said = Some shelf.said.items;
  fetch_faults = shelf.fetch_faults;
  put_faults = shelf.put_faults;
  missed = string_bytes shelf.missed;
}

-- how many calls were made, and the numbers of those that fail
pub record Calls : Type 0 where
  pub made : ℕ
  pub failing : List ℕ

-- the calls of a shelf so far
abbrev pub calls_of : MemShelf → Calls
calls_of shelf = record { made = shelf.calls; failing = shelf.failing.items }

-- one call more; the number stays at its type's end
abbrev pub after_call : Calls → Calls
after_call calls = record calls { made = min (calls.made + 1) (2 ^ 64 - 1) }

-- the next call fails: its number is in the list
abbrev pub IsFailing : Calls → Type 0
IsFailing calls = Contains calls.failing calls.made

-- a fetch answers a fault, or memory was short before
abbrev pub IsFetchFault : {T : Type 0} → Result T Fetch → Type 0
IsFetchFault result = IsErrOf result fetch.Failed ⊎ IsErrOf result fetch.Memory

-- the same of a store or a say
abbrev pub IsPutFault : {T : Type 0} → Result T Put → Type 0
IsPutFault result = IsErrOf result put.Failed ⊎ IsErrOf result put.Memory

-- the first half of the bytes, rounded down
abbrev pub half_of : List ℕ → List ℕ
half_of bytes = take (length bytes / 2) bytes
