use Rattle.std.proofs.Common.{◌≡◌, ◌<◌, ℕ, length, get_or, pos}
use Rattle.area_graph.specs.Problems.{weight_in, AreHeavy}
use Rattle.area_graph.proofs.weights.weights.Given as goal

abbrev pub invariant-loop-area : goal.invariant-loop-area
invariant-loop-area l =
    (length l.weight.items ≡ l.area) × ((v : ℕ) → v < l.area → get_or l.weight.items v (pos 0) ≡ weight_in l.checked.areas l.table v) × AreHeavy l.checked.areas l.table l.area
