use Rattle.agg_base.specs.Lists.{lists_of, nested_of}
use Rattle.arc_dissolve.specs.Slots.{AreFronts}
use Rattle.arc_dissolve.proofs.slots.slots_of.Given as goal

abbrev pub invariant-loop-place : goal.invariant-loop-place
invariant-loop-place l = AreFronts (lists_of l.rings) l.heads l.place (nested_of l.slots.items)
