use Rattle.std.proofs.Common.{◌≡◌, take}
use Rattle.area_graph.proofs.graph.distances.Given as goal

abbrev pub invariant-loop-at : goal.invariant-loop-at
invariant-loop-at l = l.items.items ≡ take l.at l.table.distance
