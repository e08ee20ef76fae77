-- How a run ends, by what the words and the files say.
use Rattle.std.specs.Prelude.{◌≡◌, ◌⊎◌, ℕ, List, [], ◌∷◌, Option, None, Some, codes}
use Rattle.agg_base.specs.declared.limits.TheConstants.{MAP_BYTES, TABLE_BYTES}
use Rattle.shelf_io.specs.Files.{Files, with_said, IsPartlySpoken}
use Rattle.shelf_io.specs.Causes.{HasRisen}
use Rattle.shelf_io.specs.State.{ShelfState}
use Rattle.agg_model.specs.Problem.{Problem}
use Rattle.class_table.specs.Table.{Table}
use Rattle.coverage_check.specs.Checked.{Checked}
use Rattle.generalise_steps.specs.Loads.{Loads}
use Rattle.cert_text.specs.CertTexts.{spelling}
use Rattle.generalise_core.specs.Words.{Request, Spells}
use Rattle.generalise_core.specs.Certificates.{Outcome, report}
use Rattle.generalise_core.specs.FileTexts.{IsText, AnswersFiles, RefusesFiles}
use Rattle.generalise_core.specs.Stops.{usage_line}
use Rattle.generalise_core.specs.Puts.{Due, all_stored, IsPartlyPut}
use Rattle.generalise_core.specs.States.{with_line, with_all}

-- the written map is due where there is one
abbrev pub map_due : List ℕ → Option (List ℕ) → List Due
map_due out None = []
map_due out (Some text) = (out, text) ∷ []

-- what is due to be stored, in this order: the certificate, and then the map
abbrev pub dues : Request → Outcome → List Due
dues r s = (r.certificate, spelling s.certificate) ∷ map_due r.out s.map

-- ---- a run that answers

-- What a run answers, and from what: the request of its words, the bytes of the map and of the table, what these spell, and the outcome
-- that is stated.
pub record Answer : Type 0 where
  pub request : Request
  pub map : List ℕ
  pub table : List ℕ
  pub checked : Checked
  pub classes : Table
  pub problem : Problem
  pub outcome : Outcome

-- the words spell the request, its files hold the map and the table, and these spell the rest
pub record IsAnswerTo (files : Option Files) (words : List (List ℕ)) (a : Answer) : Type 0 where
  pub spelled : Spells words a.request
  pub map_is : IsText files a.request.map MAP_BYTES a.map
  pub table_is : IsText files a.request.table TABLE_BYTES a.table
  pub loads : Loads a.request.format a.map a.table a.checked a.classes a.problem

-- The certificate and the map that state its outcome are stored and the report is said. Nothing else has changed.
abbrev pub IsPutOut : ShelfState → ShelfState → Answer → Type 0
IsPutOut old new a = new ≡ with_all old (dues a.request a.outcome) (report a.outcome)

-- an answer to the words and the files is put out, and that holds of it
abbrev pub PutsOut : ShelfState → ShelfState → List (List ℕ) → (Answer → Type 0) → Type 0
PutsOut old new words Holds = (a : Answer) × IsAnswerTo old.files words a × IsPutOut old new a × Holds a

-- ---- a run that stores nothing

-- the words spell a request whose files are refused by a line, and only the line was said
pub record SaysRefusal (old new : ShelfState) (words : List (List ℕ)) : Type 0 where
  pub request : Request
  pub line : List ℕ
  pub spelled : Spells words request
  pub refused : RefusesFiles old.files request line
  pub heard : new ≡ with_line old line

-- a fetch of this run failed, so the count has risen, and the map was missed
abbrev pub MissesMap : ShelfState → ShelfState → Request → Type 0
MissesMap old new r = HasRisen old.fetch_faults new.fetch_faults × (new.missed ≡ r.map)

-- the same of the table, once the map was there
abbrev pub MissesTable : ShelfState → ShelfState → Request → Type 0
MissesTable old new r =
    HasRisen old.fetch_faults new.fetch_faults × (new.missed ≡ r.table) × ((map : List ℕ) × IsText old.files r.map MAP_BYTES map)

-- Nothing has changed but what was said, the count of fetching and the name that was missed.
abbrev pub OnlyMisses : ShelfState → ShelfState → Type 0
OnlyMisses old new = new ≡ record old { said = new.said; fetch_faults = new.fetch_faults; missed = new.missed }

-- a file was missed, the map or the table once the map was there, and only the line that tells which was said
pub record SaysReadFault (old new : ShelfState) (words : List (List ℕ)) : Type 0 where
  pub request : Request
  pub spelled : Spells words request
  pub which : (MissesMap old new request × (new.said ≡ with_said old.said (codes "read fault: map\n")))
      ⊎ (MissesTable old new request × (new.said ≡ with_said old.said (codes "read fault: table\n")))
  pub same : OnlyMisses old new

-- ---- every run

-- each file that is due is as before, or holds a prefix of its due text or all of it; other files are as before
abbrev pub KeepsPartly : Option Files → Option Files → List (List ℕ) → Type 0
KeepsPartly old new words =
    (new ≡ old) ⊎ ((r : Request) × (s : Outcome) × Spells words r × AnswersFiles old r s × IsPartlyPut old new (dues r s))

-- the line that a run is due to say; the report is due only once all else that is due is stored
pub data IsDueLine (old new : ShelfState) (words : List (List ℕ)) : List ℕ → Type 0 where
  usage : ((r : Request) → ¬ Spells words r) → IsDueLine old new words usage_line
  refusal : (r : Request) (line : List ℕ) → Spells words r → RefusesFiles old.files r line → IsDueLine old new words line
  map_missed : (r : Request) → Spells words r → MissesMap old new r → IsDueLine old new words (codes "read fault: map\n")
  table_missed : (r : Request) → Spells words r → MissesTable old new r → IsDueLine old new words (codes "read fault: table\n")
  reported : (r : Request) (s : Outcome) → Spells words r → AnswersFiles old.files r s → new.files ≡ all_stored old.files (dues r s)
      → IsDueLine old new words (report s)

-- what was said is a prefix of the due line or all of it
abbrev pub IsHeard : ShelfState → ShelfState → List (List ℕ) → Type 0
IsHeard old new words = (new.said ≡ old.said) ⊎ ((line : List ℕ) × IsDueLine old new words line × IsPartlySpoken old.said new.said line)
