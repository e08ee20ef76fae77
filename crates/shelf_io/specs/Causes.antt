-- When a shelf may answer a fault.
use Rattle.std.specs.Prelude.{◌≡◌, ◌≤◌, ℕ, ◌+◌, ◌-◌, ◌^◌, min, Result, IsErrOf}
use Rattle.shelf_io.specs.declared.shelf.Fetch.{Fetch}
use Rattle.shelf_io.specs.declared.shelf.Put.{Put}
use Rattle.shelf_io.specs.declared.shelf.Fetch.TheVariants as fetch
use Rattle.shelf_io.specs.declared.shelf.Put.TheVariants as put

-- The count has risen by one or more. One that stands at its type's end counts as risen.
abbrev pub HasRisen : ℕ → ℕ → Type 0
HasRisen before now = min (before + 1) (2 ^ 64 - 1) ≤ now

-- What a fetch does to the count of its faults: it never falls, it stays at its type's end, and `Failed` is answered only where it has risen.
pub record HasFetchCause {T : Type 0} (before now : ℕ) (result : Result T Fetch) : Type 0 where
  pub later : before ≤ now
  pub stays : before ≡ 2 ^ 64 - 1 → now ≡ before
  pub failed : IsErrOf result fetch.Failed → HasRisen before now

-- the same of a store or a say
pub record HasPutCause {T : Type 0} (before now : ℕ) (result : Result T Put) : Type 0 where
  pub later : before ≤ now
  pub stays : before ≡ 2 ^ 64 - 1 → now ≡ before
  pub failed : IsErrOf result put.Failed → HasRisen before now
