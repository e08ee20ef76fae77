-- What a check judges.
use Rattle.std.specs.Prelude.{◌≡◌, ℕ, List, Option, Some, None, not, is_some}
use Rattle.plane_edge.specs.declared.coverage.Coverage.{Coverage}
use Rattle.topo_reader.specs.Outcomes.{layer_of}
use Rattle.class_table.specs.Table.{Table}
use Rattle.coverage_check.specs.Checked.{Checked}
use Rattle.agg_model.specs.Problem.{Problem}
use Rattle.cert_text.specs.CertTexts.{Spells, is_hopeless}
use Rattle.cert_text.specs.declared.certificate.Certificate.{Certificate}
use Rattle.cert_check.specs.Verdicts.{IsValid, IsVerdict}
use Rattle.cert_check.specs.Laws.{Says}
use Rattle.cert_check.specs.declared.verdict.Verdict.{Verdict}
use Rattle.generalise_steps.specs.Loads.{Loads}
use Rattle.generalise_steps.specs.declared.map_format.Format.{Format}
use Rattle.check_steps.specs.VerdictLines.{verdict_line}
use Rattle.check_steps.specs.DrawnTexts.{SpellsDrawn}

-- a map and a class table with their problem, a certificate, and the drawn map where there is one
pub record Case : Type 0 where
  pub checked : Checked
  pub classes : Table
  pub problem : Problem
  pub certificate : Certificate
  pub drawn : Option Coverage

-- the text of the drawn map spells it; there is none where no text is read
abbrev pub SpellsOut : Option (List ℕ) → Option Coverage → Type 0
SpellsOut None None = Unit {0}
SpellsOut None (Some drawn) = ⊥
SpellsOut (Some text) None = ⊥
SpellsOut (Some text) (Some drawn) = SpellsDrawn text (layer_of drawn)

-- the texts spell the case; that of the drawn map is read exactly where the certificate has a grouping
pub record SpellsCase (format : Format) (map table certificate : List ℕ) (out : Option (List ℕ)) (x : Case) : Type 0 where
  pub loads : Loads format map table x.checked x.classes x.problem
  pub spelled : Spells certificate x.certificate
  pub is_read : is_some out ≡ not (is_hopeless x.certificate.status)
  pub drawn : SpellsOut out x.drawn

-- the certificate is valid for the problem and the drawn map
abbrev pub IsValidCase : Case → Type 0
IsValidCase x = IsValid x.checked x.problem x.classes.names x.drawn x.certificate

-- valid where it is, else the first flaw
abbrev pub IsVerdictOn : Case → Verdict → Type 0
IsVerdictOn x v = IsVerdict x.checked x.problem x.classes.names x.drawn x.certificate v

-- what the certificate states holds: with `Optimal` its grouping is feasible at the stated cost, and no feasible grouping costs less; with
-- `Within` none costs less than the stated bound; with `Hopeless` none is feasible
abbrev pub HoldsCase : Case → Type 0
HoldsCase x = Says x.certificate.status x.problem x.certificate

-- the line of the verdict
abbrev pub line_on : Case → Verdict → List ℕ
line_on x v = verdict_line x.certificate v
