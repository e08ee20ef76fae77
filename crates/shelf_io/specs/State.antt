-- What a shelf holds, and what calls change of it.
use Rattle.std.specs.Prelude.{ℕ, List, [], Option, Result}
use Rattle.std.specs.declared.result.Result.TheVariants.{Ok, Err}
use Rattle.shelf_io.specs.Files.{Files, with_file, with_said}
use Rattle.shelf_io.specs.declared.shelf.Fetch.{Fetch}
use Rattle.shelf_io.specs.declared.shelf.Put.{Put}
use Rattle.shelf_io.specs.declared.shelf.Fetch.TheVariants as fetch
use Rattle.shelf_io.specs.declared.shelf.Put.TheVariants as put

-- what clauses know of a shelf
pub record ShelfState : Type 0 where
  -- the files, where the shelf tells them
  pub files : Option Files
  -- what was said, where the shelf tells it
  pub said : Option (List ℕ)
  -- the faults of fetching so far
  pub fetch_faults : ℕ
  -- the faults of storing and saying so far
  pub put_faults : ℕ
  -- the name of the last fetch that failed, and no bytes before the first
  pub missed : List ℕ

-- a state before the first call
abbrev pub first_state : Option Files → Option (List ℕ) → ShelfState
first_state files said = record { files = files; said = said; fetch_faults = 0; put_faults = 0; missed = [] }

-- The state after a fetch of that name. Where it failed, the count of fetching may be another, and the name is the one missed.
abbrev pub after_fetch : {T : Type 0} → ShelfState → ℕ → List ℕ → Result T Fetch → ShelfState
after_fetch old faults name (Ok bytes) = old
after_fetch old faults name (Err fetch.Failed) = record old { fetch_faults = faults; missed = name }
after_fetch old faults name (Err fetch.TooLong) = old
after_fetch old faults name (Err fetch.Memory) = old

-- The state after a store. Where not all was stored, the files may be others, and the count of putting too where it failed.
abbrev pub after_store : {T : Type 0} → ShelfState → ShelfState → List ℕ → List ℕ → Result T Put → ShelfState
after_store old new name bytes (Ok done) = record old { files = with_file old.files name bytes }
after_store old new name bytes (Err put.Failed) = record old { files = new.files; put_faults = new.put_faults }
after_store old new name bytes (Err put.Memory) = record old { files = new.files }

-- The state after a say. Where not all was said, what was said may be another, and the count of putting too where it failed.
abbrev pub after_say : {T : Type 0} → ShelfState → ShelfState → List ℕ → Result T Put → ShelfState
after_say old new bytes (Ok done) = record old { said = with_said old.said bytes }
after_say old new bytes (Err put.Failed) = record old { said = new.said; put_faults = new.put_faults }
after_say old new bytes (Err put.Memory) = record old { said = new.said }
