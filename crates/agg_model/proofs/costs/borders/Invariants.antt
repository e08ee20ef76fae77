use Rattle.std.proofs.Common.{◌≡◌}
use Rattle.std.specs.Prelude.{pos, ◌≤ℤ◌}
use Rattle.whole_ring.specs.Sums.{sum_below}
use Rattle.agg_model.specs.Problem.{length_of, border_below}
use Rattle.agg_model.proofs.costs.borders.Given as goal

abbrev pub invariant-loop-link : goal.invariant-loop-link
invariant-loop-link l =
    (l.sum ≡ border_below l.problem l.grouping l.link) × (pos 0 ≤ℤ l.sum) × (l.sum ≤ℤ sum_below l.link (length_of l.problem))
