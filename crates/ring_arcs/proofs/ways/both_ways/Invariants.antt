use Rattle.std.proofs.Common.{◌≡◌, take}
use Rattle.ring_arcs.specs.Ways.{both_ways}
use Rattle.ring_arcs.proofs.ways.both_ways.Given as goal

abbrev pub invariant-loop-edge : goal.invariant-loop-edge
invariant-loop-edge l = l.ways.items ≡ both_ways (take l.edge-index l.edges)
