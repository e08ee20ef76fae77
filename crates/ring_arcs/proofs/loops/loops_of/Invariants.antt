use Rattle.std.proofs.Common.{take, All}
use Rattle.ring_arcs.specs.Breaks.{IsBroken}
use Rattle.ring_arcs.proofs.loops.loops_of.Given as goal

abbrev pub invariant-loop-ring : goal.invariant-loop-ring
invariant-loop-ring l = All (λ ring. IsBroken l.ways l.loops.items ring.items) (take l.ring-index l.rings)
