use Rattle.std.proofs.Common.{◌≡◌, ◌≤◌, take}
use Rattle.agg_base.specs.declared.limits.TheConstants.{STEPS}
use Rattle.plane_edge.specs.Rings.{step_count}
use Rattle.plane_edge.proofs.bounds.has_few_steps.Given as goal

abbrev pub invariant-loop-area : goal.invariant-loop-area
invariant-loop-area l = (l.total ≡ step_count (take l.area-index l.areas)) × (l.total ≤ STEPS)
