use Rattle.std.proofs.Common.{◌≡◌, ◌<◌, ℕ, length, get_or}
use Rattle.area_graph.specs.Problems.{IsOwn, class_in}
use Rattle.area_graph.proofs.owners.own_classes.Given as goal

abbrev pub invariant-loop-area : goal.invariant-loop-area
invariant-loop-area l =
    (length l.own.items ≡ l.area) × ((v : ℕ) → v < l.area → IsOwn l.table (class_in l.checked.areas v) (get_or l.own.items v 0))
