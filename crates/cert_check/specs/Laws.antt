-- What a verdict says.
use Rattle.std.specs.Prelude.{◌≡◌, ◌↔◌, List, ℕ, Option, Some, None, ℤ, ◌≤ℤ◌, not, is_some}
use Rattle.agg_model.specs.Problem.{Problem, Grouping, IsProblem, IsFeasible, cost}
use Rattle.plane_edge.specs.declared.coverage.Coverage.{Coverage}
use Rattle.coverage_check.specs.Checked.{Checked}
use Rattle.cert_text.specs.CertTexts.{is_hopeless, HasSpelling}
use Rattle.cert_text.specs.declared.certificate.Certificate.{Certificate}
use Rattle.cert_text.specs.declared.certificate.CertStatus.{CertStatus}
use Rattle.cert_text.specs.declared.certificate.CertStatus.TheVariants.{Optimal, Within, Hopeless}
use Rattle.cert_check.specs.declared.verdict.Verdict.{Verdict}
use Rattle.cert_check.specs.declared.verdict.Verdict.TheVariants.{Valid}
use Rattle.cert_check.specs.Verdicts.{IsValid, IsVerdict}

-- there is a drawn map exactly where there is a grouping
abbrev pub IsDrawnWhere : CertStatus → Option Coverage → Type 0
IsDrawnWhere status drawn = is_some drawn ≡ not (is_hopeless status)

-- a certificate has one verdict at most, and it is `Valid` exactly where the certificate is valid
abbrev pub VerdictLaw : Type 0
VerdictLaw =
    (map : Checked) (p : Problem) (names : List (List ℕ)) (drawn : Option Coverage) (c : Certificate) → HasSpelling c → IsDrawnWhere c.status drawn
    → ((one other : Verdict) → IsVerdict map p names drawn c one → IsVerdict map p names drawn c other → one ≡ other) × ((v : Verdict) → IsVerdict map p names drawn c v → (v ≡ Valid) ↔ IsValid map p names drawn c)

-- no feasible grouping costs less than the number, where there is one
abbrev pub HoldsOfAll : Problem → Option ℤ → Type 0
HoldsOfAll p (Some b) = (g : Grouping) → IsFeasible p g → b ≤ℤ cost p g
HoldsOfAll p None = ⊥

-- what a status says of a problem: the stated cost is that of the certificate's feasible grouping, and no feasible grouping costs less than it,
-- or than the stated bound; or no grouping is feasible
abbrev pub Says : CertStatus → Problem → Certificate → Type 0
Says Optimal p c = IsFeasible p c.grouping × (c.cost ≡ Some (cost p c.grouping)) × HoldsOfAll p c.cost
Says Within p c = IsFeasible p c.grouping × (c.cost ≡ Some (cost p c.grouping)) × HoldsOfAll p c.bound
Says Hopeless p c = (g : Grouping) → ¬ IsFeasible p g

-- what a valid certificate says holds
abbrev pub ProofLaw : Type 0
ProofLaw =
    (map : Checked) (p : Problem) (names : List (List ℕ)) (drawn : Option Coverage) (c : Certificate) → IsProblem p → IsValid map p names drawn c → Says c.status p c
