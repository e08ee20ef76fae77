use Rattle.std.proofs.Common.{◌≡◌, false, take, All, Contains}
use Rattle.plane_edge.specs.Edges.{is_edge_below}
use Rattle.arc_dissolve.proofs.edges.least_of.Given as goal

abbrev pub invariant-loop-edge : goal.invariant-loop-edge
invariant-loop-edge l = record {
  one : Contains l.edges l.least;
  least : All (λ f. is_edge_below f l.least ≡ false) (take l.edge-index l.edges);
}
