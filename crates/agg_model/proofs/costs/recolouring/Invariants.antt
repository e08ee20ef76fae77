use Rattle.std.proofs.Common.{◌≡◌}
use Rattle.std.specs.Prelude.{pos, ◌*ℤ◌, ◌≤ℤ◌}
use Rattle.whole_ring.specs.Sums.{sum_below}
use Rattle.agg_model.specs.Problem.{weight_of, recolouring_below}
use Rattle.agg_model.proofs.costs.recolouring.Given as goal

abbrev pub invariant-loop-area : goal.invariant-loop-area
invariant-loop-area l =
    (l.sum ≡ recolouring_below l.problem l.grouping l.area) × (pos 0 ≤ℤ l.sum) × (l.sum ≤ℤ (pos 10000 *ℤ sum_below l.area (weight_of l.problem)))
