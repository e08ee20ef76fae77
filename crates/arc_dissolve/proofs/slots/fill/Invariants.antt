use Rattle.agg_base.specs.Lists.{lists_of, nested_of}
use Rattle.arc_dissolve.specs.Slots.{AreSlots}
use Rattle.arc_dissolve.proofs.slots.fill.Given as goal

abbrev pub invariant-loop-place : goal.invariant-loop-place
invariant-loop-place l = AreSlots (lists_of l.rings) l.heads l.place (nested_of l.slots.items)
