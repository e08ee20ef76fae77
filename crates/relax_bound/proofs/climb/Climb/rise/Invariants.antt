use Rattle.std.proofs.Common.{◌≡◌, ◌+◌, ◌-◌, ◌*◌, false, length}
use Rattle.std.specs.Prelude.{if◌then◌else◌}
use Rattle.agg_model.specs.Problem.{areas}
use Rattle.bound_rows.specs.Domains.{allows}
use Rattle.relax_bound.specs.Ascents.{IsEnded}
use Rattle.relax_bound.specs.Climbs.{sum_of, IsState}
use Rattle.relax_bound.proofs.climb.Climb.rise.Given as goal

abbrev pub invariant-loop-is_growing : goal.invariant-loop-is_growing
invariant-loop-is_growing l =
    IsState l.problem (allows l.domains) l.share l.self × (l.is_growing ≡ false → IsEnded l.problem (allows l.domains) l.share (sum_of l.self.rows.items))

abbrev pub decreases-loop-is_growing : goal.decreases-loop-is_growing
decreases-loop-is_growing l = (if l.is_growing then 1 else 0) + 2 * (16 * areas l.problem - length l.self.rows.items)
