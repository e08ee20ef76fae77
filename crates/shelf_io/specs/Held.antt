-- Files that are kept in a list, each with its name.
use Rattle.std.specs.Prelude.{◌≡◌, ℕ, List, Vec, map}
use Rattle.std.specs.declared.alloc.Global.{Global}
use Rattle.std.specs.List.{AllPairs}
use Rattle.std.specs.FinMap.{from_entries}
use Rattle.shelf_io.specs.Files.{Files}

-- a file's name and its bytes
abbrev pub entry : List ℕ × Vec ℕ Global → List ℕ × List ℕ
entry file = (file.0, file.1.items)

-- the files of a list, where the first of two with one name counts
abbrev pub files_of : List (List ℕ × Vec ℕ Global) → Files
files_of held = from_entries (map entry held)

-- no two files have one name
abbrev pub AreNamesDistinct : List (List ℕ × Vec ℕ Global) → Type 0
AreNamesDistinct held = AllPairs (λ first second. ¬ (first.0 ≡ second.0)) held
