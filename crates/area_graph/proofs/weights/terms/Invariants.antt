use Rattle.std.proofs.Common.{◌≡◌, take}
use Rattle.area_graph.specs.Weights.{sum_over, signed_term}
use Rattle.area_graph.proofs.weights.terms.Given as goal

abbrev pub invariant-loop-edge : goal.invariant-loop-edge
invariant-loop-edge l = l.sum ≡ sum_over (signed_term l.rows) (take l.edge-index l.odd)
