use Rattle.std.proofs.Common.{take}
use Rattle.ring_arcs.specs.RingArcs.{AreIndexed}
use Rattle.agg_base.specs.Lists.{lists_of}
use Rattle.ring_arcs.proofs.arcs.all_indexes.Given as goal

abbrev pub invariant-loop-ring : goal.invariant-loop-ring
invariant-loop-ring l = AreIndexed (lists_of (take l.ring-index l.rings)) (lists_of l.arcs) (lists_of l.indexes.items)
