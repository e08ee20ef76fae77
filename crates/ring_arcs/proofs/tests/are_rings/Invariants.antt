use Rattle.std.proofs.Common.{take, All}
use Rattle.plane_edge.specs.Rings.{IsRing}
use Rattle.ring_arcs.proofs.tests.are_rings.Given as goal

abbrev pub invariant-loop-ring : goal.invariant-loop-ring
invariant-loop-ring l = All (λ ring. IsRing ring.items) (take l.ring-index l.rings)
