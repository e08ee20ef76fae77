-- What the program makes of the bytes of the map and the table.
use Rattle.std.specs.Prelude.{◌≡◌, ℕ, List, Option, None, Some}
use Rattle.agg_model.specs.Problem.{Problem, Grouping}
use Rattle.class_table.specs.Table.{Table}
use Rattle.coverage_check.specs.Checked.{Checked}
use Rattle.coverage_check.specs.Kept.{odds_of}
use Rattle.map_drawing.specs.Drawn.{IsDrawnMap}
use Rattle.generalise_steps.specs.Loads.{Loads}
use Rattle.generalise_steps.specs.declared.map_format.Format.{Format}
use Rattle.cert_text.specs.CertTexts.{HasSpelling}
use Rattle.cert_text.specs.declared.certificate.CertStatus.{CertStatus}
use Rattle.cert_text.specs.declared.certificate.CertStatus.TheVariants.{Optimal, Within, Hopeless}
use Rattle.search_answer.specs.Answers.{States}
use Rattle.generalise_core.specs.Certificates.{Outcome}

-- the map and the table are accepted, and this is their problem
pub record AcceptsTexts (format : Format) (map table : List ℕ) (p : Problem) : Type 0 where
  pub checked : Checked
  pub classes : Table
  pub loads : Loads format map table checked classes p

-- the map is drawn from the grouping, with the names of the table's classes; none where no grouping is feasible
abbrev pub IsDrawn : Checked → Table → Grouping → CertStatus → Option (List ℕ) → Type 0
IsDrawn c t g Hopeless None = Unit {0}
IsDrawn c t g Hopeless (Some text) = ⊥
IsDrawn c t g Optimal None = ⊥
IsDrawn c t g Optimal (Some text) = IsDrawnMap (odds_of c.areas) g t.names c.frame text
IsDrawn c t g Within None = ⊥
IsDrawn c t g Within (Some text) = IsDrawnMap (odds_of c.areas) g t.names c.frame text

-- This answers the problem of a checked map and a table, with n splits at most. It tells how many areas were passed over, and the map is
-- drawn.
pub record AnswersProblem (c : Checked) (t : Table) (p : Problem) (n : ℕ) (s : Outcome) : Type 0 where
  pub states : States p n s.certificate
  pub spelled : HasSpelling s.certificate
  pub passed : s.passed ≡ c.passed
  pub drawn : IsDrawn c t s.certificate.grouping s.certificate.status s.map

-- The map and the table are accepted, and this answers their problem with n splits at most.
pub record AnswersTexts (format : Format) (map table : List ℕ) (n : ℕ) (s : Outcome) : Type 0 where
  pub checked : Checked
  pub classes : Table
  pub problem : Problem
  pub loads : Loads format map table checked classes problem
  pub answers : AnswersProblem checked classes problem n s
