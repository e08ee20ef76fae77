use Rattle.std.proofs.Common.{take, All}
use Rattle.arc_dissolve.specs.Extents.{HasEdge}
use Rattle.arc_dissolve.proofs.extent.Extent.of_edges.Given as goal

abbrev pub invariant-loop-edge : goal.invariant-loop-edge
invariant-loop-edge l = All (HasEdge l.extent) (take l.edge-index l.edges)
