use Rattle.std.proofs.Common.{◌≡◌, slice_index}
use Rattle.std.specs.Prelude.{not, pos, ◌≤ℤ◌}
use Rattle.whole_ring.specs.Sums.{sum_below, when}
use Rattle.agg_model.specs.Problem.{length_of}
use Rattle.row_laws.specs.Fixed.{is_same_kind}
use Rattle.fixed_value.proofs.costs.borders.Given as goal

abbrev pub invariant-loop-link : goal.invariant-loop-link
invariant-loop-link l =
    (l.sum ≡ sum_below l.link (λ k. when (not (is_same_kind l.problem (λ v. slice_index l.kinds v) k)) (length_of l.problem k))) × (pos 0 ≤ℤ l.sum) × (l.sum ≤ℤ sum_below l.link (length_of l.problem))
