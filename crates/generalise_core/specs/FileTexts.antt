-- What the files of a request hold, and what is said of them.
use Rattle.std.specs.Prelude.{◌≡◌, ◌<◌, ◌≤◌, ℕ, List, length, Option, Some, IfSome, codes}
use Rattle.agg_base.specs.declared.limits.TheConstants.{MAP_BYTES, TABLE_BYTES}
use Rattle.shelf_io.specs.Files.{Files, text_at}
use Rattle.agg_model.specs.Problem.{Problem}
use Rattle.generalise_steps.specs.Refusals.{Refuses}
use Rattle.generalise_core.specs.Words.{Request, Spells}
use Rattle.generalise_core.specs.Certificates.{Outcome}
use Rattle.generalise_core.specs.Answers.{AcceptsTexts, AnswersTexts}

-- the file is longer than it may be, where files are told
abbrev pub IsTooLong : Option Files → List ℕ → ℕ → Type 0
IsTooLong files name limit = IfSome files (λ m. limit < length (text_at m name))

-- the bytes are within the limit, and are those of the file, where files are told
pub record IsText (files : Option Files) (name : List ℕ) (limit : ℕ) (bytes : List ℕ) : Type 0 where
  pub fits : length bytes ≤ limit
  pub told : IfSome files (λ m. bytes ≡ text_at m name)

-- the line of the first step that refuses: the length of the map, that of the table, and then what they hold
pub data RefusesFiles (files : Option Files) (r : Request) : List ℕ → Type 0 where
  long_map : IsTooLong files r.map MAP_BYTES → RefusesFiles files r (codes "refused: map TooLong\n")
  long_table : (map : List ℕ) → IsText files r.map MAP_BYTES map → IsTooLong files r.table TABLE_BYTES → RefusesFiles files r (codes "refused: table TooLong\n")
  texts : (map table line : List ℕ) → IsText files r.map MAP_BYTES map → IsText files r.table TABLE_BYTES table → Refuses r.format map table line → RefusesFiles files r line

-- the two files are accepted, and this is an answer to them
pub record AnswersFiles (files : Option Files) (r : Request) (s : Outcome) : Type 0 where
  pub map : List ℕ
  pub table : List ℕ
  pub map_is : IsText files r.map MAP_BYTES map
  pub table_is : IsText files r.table TABLE_BYTES table
  pub answers : AnswersTexts r.format map table r.splits s

-- the two files are accepted, and this is their problem
pub record AcceptsFiles (files : Option Files) (r : Request) (p : Problem) : Type 0 where
  pub map : List ℕ
  pub table : List ℕ
  pub map_is : IsText files r.map MAP_BYTES map
  pub table_is : IsText files r.table TABLE_BYTES table
  pub accepted : AcceptsTexts r.format map table p

-- told files hold a map and a table that are accepted, and this is their problem
pub record AcceptsTold (files : Option Files) (words : List (List ℕ)) (p : Problem) : Type 0 where
  pub told : Files
  pub told_is : files ≡ Some told
  pub request : Request
  pub spelled : Spells words request
  pub accepts : AcceptsFiles (Some told) request p

-- told files are refused by the line
pub record RefusesTold (files : Option Files) (words : List (List ℕ)) (line : List ℕ) : Type 0 where
  pub told : Files
  pub told_is : files ≡ Some told
  pub request : Request
  pub spelled : Spells words request
  pub refused : RefusesFiles (Some told) request line
