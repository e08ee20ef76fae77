use Rattle.std.proofs.Common.{◌≡◌, take, fold, []}
use Rattle.plane_edge.specs.Sweep.{toggle}
use Rattle.plane_edge.proofs.odd_edges.odd_of.Given as goal

abbrev pub invariant-loop-edge : goal.invariant-loop-edge
invariant-loop-edge l = l.odd.items ≡ fold toggle [] (take l.edge-index l.edge-items)
