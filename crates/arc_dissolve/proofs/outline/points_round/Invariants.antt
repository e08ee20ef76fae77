use Rattle.std.proofs.Common.{◌≡◌, take}
use Rattle.arc_dissolve.specs.Rings.{points_round}
use Rattle.agg_base.specs.Lists.{lists_of}
use Rattle.arc_dissolve.proofs.outline.points_round.Given as goal

abbrev pub invariant-loop-index : goal.invariant-loop-index
invariant-loop-index l = l.points.items ≡ points_round (lists_of l.arcs) (take l.index-index l.ring)
