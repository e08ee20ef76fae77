use Rattle.std.proofs.Common.{◌≡◌, take}
use Rattle.agg_base.specs.Lists.{lists_of}
use Rattle.arc_dissolve.proofs.polygons.copy.Given as goal

abbrev pub invariant-loop-ring : goal.invariant-loop-ring
invariant-loop-ring l = lists_of l.copies.items ≡ lists_of (take l.ring-index l.rings)
