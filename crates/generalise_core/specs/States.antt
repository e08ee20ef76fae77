-- What a run changes of its shelf.
use Rattle.std.specs.Prelude.{◌≡◌, ℕ, List}
use Rattle.shelf_io.specs.Files.{with_said}
use Rattle.shelf_io.specs.State.{ShelfState}
use Rattle.generalise_core.specs.Puts.{Due, all_stored}

-- the state once the line is said
abbrev pub with_line : ShelfState → List ℕ → ShelfState
with_line state line = record state { said = with_said state.said line }

-- the state once each due text is stored and the line is said
abbrev pub with_all : ShelfState → List Due → List ℕ → ShelfState
with_all state due line = record state { files = all_stored state.files due; said = with_said state.said line }

-- Nothing has changed but the count of fetching and the name that was missed.
abbrev pub OnlyFetches : ShelfState → ShelfState → Type 0
OnlyFetches old new = new ≡ record old { fetch_faults = new.fetch_faults; missed = new.missed }

-- Nothing has changed but what was said and the count of putting.
abbrev pub OnlySays : ShelfState → ShelfState → Type 0
OnlySays old new = new ≡ record old { said = new.said; put_faults = new.put_faults }

-- Nothing has changed but the files and the count of putting.
abbrev pub OnlyStores : ShelfState → ShelfState → Type 0
OnlyStores old new = new ≡ record old { files = new.files; put_faults = new.put_faults }

-- Nothing has changed but the files, what was said and the count of putting.
abbrev pub OnlyPuts : ShelfState → ShelfState → Type 0
OnlyPuts old new = new ≡ record old { files = new.files; said = new.said; put_faults = new.put_faults }
