use Rattle.std.proofs.Common.{◌≡◌}
use Rattle.std.specs.Prelude.{pos, ◌≤ℤ◌}
use Rattle.whole_ring.specs.Sums.{sum_below}
use Rattle.agg_model.specs.Rules.{length_in, IsLight}
use Rattle.agg_model.proofs.rules.length_sum.Given as goal

abbrev pub invariant-loop-link : goal.invariant-loop-link
invariant-loop-link l = (l.sum ≡ sum_below l.link-index (length_in l.links)) × (pos 0 ≤ℤ l.sum) × IsLight l.sum
