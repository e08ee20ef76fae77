use Rattle.std.proofs.Common.{◌≡◌, ◌≢◌, ◌-◌, ◌*◌, ◌≤◌, length}
use Rattle.bound_rows.specs.Domains.{allows}
use Rattle.bound_rows.specs.Scratch.{way_from}
use Rattle.relax_bound.specs.Levels.{numbers_of, IsMetFrom}
use Rattle.relax_bound.proofs.levels.Levels.escape_units.Given as goal

abbrev pub invariant-loop-lead : goal.invariant-loop-lead
invariant-loop-lead l =
    (l.lead ≤ 2 * length l.problem.links) × (l.lead ≢ 0 → way_from l.problem (l.lead - 1) ≡ l.area) × IsMetFrom l.problem (allows l.domains) (numbers_of l.self.left) l.self.tips.items l.area l.lead l.units

abbrev pub decreases-loop-lead : goal.decreases-loop-lead
decreases-loop-lead l = l.lead
