use Rattle.std.proofs.Common.{◌≡◌, map, take}
use Rattle.arc_dissolve.specs.Rings.{points_round}
use Rattle.agg_base.specs.Lists.{lists_of}
use Rattle.arc_dissolve.proofs.outline.outlines_of.Given as goal

abbrev pub invariant-loop-ring : goal.invariant-loop-ring
invariant-loop-ring l = lists_of l.outlines.items ≡ map (points_round (lists_of l.arcs)) (lists_of (take l.ring-index l.rings))
