use Rattle.std.proofs.Common.{◌≡◌, ◌≢◌, ◌-◌, ◌*◌, ◌≤◌, ℕ, length}
use Rattle.std.specs.Prelude.{◌+ℤ◌, ◌-ℤ◌}
use Rattle.row_laws.specs.Values.{amount_at}
use Rattle.bound_rows.specs.Domains.{allows}
use Rattle.bound_rows.specs.Scratch.{IsAt, way_from}
use Rattle.relax_bound.specs.Leads.{beside, choices_of}
use Rattle.relax_bound.specs.Levels.{numbers_of, tip_at, AreTips, value_at}
use Rattle.relax_bound.proofs.levels.Levels.lean_beside.Given as goal

abbrev pub invariant-loop-lead : goal.invariant-loop-lead
invariant-loop-lead l =
    (l.lead ≤ 2 * length l.problem.links) × (l.lead ≢ 0 → way_from l.problem (l.lead - 1) ≡ l.area) × IsAt l.problem (λ at. value_at l.problem (numbers_of l.initial.self.left) at -ℤ amount_at (choices_of l.class l.units (beside l.problem l.area (2 * length l.problem.links))) at +ℤ amount_at (choices_of l.class l.units (beside l.problem l.area l.lead)) at) (numbers_of l.self.left) × AreTips l.problem (allows l.domains) (numbers_of l.self.left) l.self.tips.items × ((v : ℕ) → (tip_at l.self.tips.items v).least ≡ (tip_at l.initial.self.tips.items v).least)

abbrev pub decreases-loop-lead : goal.decreases-loop-lead
decreases-loop-lead l = l.lead
