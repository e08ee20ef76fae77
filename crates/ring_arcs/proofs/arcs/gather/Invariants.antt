use Rattle.std.proofs.Common.{take}
use Rattle.ring_arcs.specs.Chains.{AreGathered}
use Rattle.agg_base.specs.Lists.{lists_of}
use Rattle.ring_arcs.proofs.arcs.gather.Given as goal

abbrev pub invariant-loop-ring : goal.invariant-loop-ring
invariant-loop-ring l = AreGathered l.breaks.ways.items l.breaks.loops.items (lists_of (take l.ring-index l.rings)) (lists_of l.arcs.items)
