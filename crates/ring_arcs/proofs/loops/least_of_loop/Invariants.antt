use Rattle.std.proofs.Common.{◌≡◌, false, take, All, Contains}
use Rattle.plane_edge.specs.Order.{is_below}
use Rattle.ring_arcs.specs.Breaks.{is_node}
use Rattle.ring_arcs.proofs.loops.least_of_loop.Given as goal

abbrev pub invariant-loop-point : goal.invariant-loop-point
invariant-loop-point l = record {
  no_node : All (λ q. is_node l.ways q ≡ false) (take l.point-index l.ring);
  inside : Contains l.ring l.least;
  least : All (λ q. is_below q l.least ≡ false) (take l.point-index l.ring);
}
