use Rattle.std.proofs.Common.{◌≡◌}
use Rattle.std.specs.Prelude.{pos, ◌≤ℤ◌}
use Rattle.whole_ring.specs.Sums.{sum_below}
use Rattle.agg_model.specs.Rules.{weight_in, IsLight}
use Rattle.agg_model.proofs.rules.weight_sum.Given as goal

abbrev pub invariant-loop-one : goal.invariant-loop-one
invariant-loop-one l = (l.sum ≡ sum_below l.one-index (weight_in l.weight)) × (pos 0 ≤ℤ l.sum) × IsLight l.sum
