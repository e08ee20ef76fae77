use Rattle.std.proofs.Common.{◌≡◌, slice_index}
use Rattle.std.specs.Prelude.{pos, ◌*ℤ◌, ◌≤ℤ◌}
use Rattle.whole_ring.specs.Sums.{sum_below}
use Rattle.agg_model.specs.Problem.{weight_of, recolouring}
use Rattle.fixed_value.proofs.costs.recolouring.Given as goal

abbrev pub invariant-loop-area : goal.invariant-loop-area
invariant-loop-area l =
    (l.sum ≡ sum_below l.area (λ v. recolouring l.problem v (slice_index l.kinds v))) × (pos 0 ≤ℤ l.sum) × (l.sum ≤ℤ (pos 10000 *ℤ sum_below l.area (weight_of l.problem)))
