-- Several files that are stored one after the other.
use Rattle.std.specs.Prelude.{◌≡◌, ◌⊎◌, ℕ, List, [], ◌∷◌, take, Option}
use Rattle.shelf_io.specs.Files.{Files, with_file}

-- a file's name, and the text that it is to hold
abbrev pub Due : Type 0
Due = List ℕ × List ℕ

-- told files, once each due text is stored
abbrev pub all_stored : Option Files → List Due → Option Files
all_stored files [] = files
all_stored files (due ∷ more) = all_stored (with_file files due.0 due.1) more

-- Some of the due texts from the front on are stored, and of the next a prefix. Nothing else has changed.
abbrev pub IsPartlyPut : Option Files → Option Files → List Due → Type 0
IsPartlyPut old new [] = new ≡ old
IsPartlyPut old new (due ∷ more) = (new ≡ old) ⊎ ((count : ℕ) × (new ≡ with_file old due.0 (take count due.1))) ⊎ IsPartlyPut (with_file old due.0 due.1) new more
