use Rattle.std.proofs.Common.{◌≡◌}
use Rattle.whole_ring.specs.Sums.{sum_below}
use Rattle.relax_bound.specs.Levels.{tip_at}
use Rattle.relax_bound.proofs.starts.least_sum.Given as goal

abbrev pub invariant-loop-tip : goal.invariant-loop-tip
invariant-loop-tip l = l.sum ≡ sum_below l.tip-index (λ v. (tip_at l.tips v).least)
