use Rattle.agg_base.specs.Lists.{lists_of}
use Rattle.arc_dissolve.specs.Shells.{AreShells}
use Rattle.arc_dissolve.proofs.shells.shells_in_order.Given as goal

abbrev pub invariant-loop-place : goal.invariant-loop-place
invariant-loop-place l = AreShells (lists_of l.rings) (lists_of l.outlines) l.place l.shells.items
