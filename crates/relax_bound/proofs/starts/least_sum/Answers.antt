use Rattle.std.proofs.Common.{◌+◌, ℕ, ℤ, arith, length, rules}
use Rattle.std.specs.Prelude.{FitsSigned}
use Rattle.std.specs.Int.{w128}
use Rattle.std.proofs.lemmas.Int.{ints}
use Rattle.whole_ring.proofs.Sums.{sum_below-nonnegative, sum_below-more}
use Rattle.agg_model.proofs.CostLemmas.{sum_below-part}
use Rattle.relax_bound.specs.Levels.{tip_at}
use Rattle.relax_bound.proofs.starts.least_sum.Goals as goal

pub overflow_add-sum : goal.overflow_add-sum
overflow_add-sum c =
    let i = c.loop-tip.tip-index in
    let n = length c.args.tips.now in
    let test = c.loop-tip-test.true in
    let f : ℕ → ℤ = λ v. (tip_at c.args.tips.now v).least in
    let low = c.requires.low in
    let part = sum_below-part n (i + 1) f (omega arith) low in
    let more = sum_below-more i f in
    let before = sum_below-nonnegative i f (λ v h. low v (omega arith)) in
    let here = low i test in
    let most = c.requires.most in
    let is = c.loop-tip.invariant in
    let fits : FitsSigned w128 (f i) = search rules in
    omega (arith, ints)

pub loop-tip-preserved : goal.loop-tip-preserved
loop-tip-preserved c =
    let i = c.loop-tip.tip-index in
    let n = length c.args.tips.now in
    let test = c.loop-tip-test.true in
    let f : ℕ → ℤ = λ v. (tip_at c.args.tips.now v).least in
    let low = c.requires.low in
    let part = sum_below-part n (i + 1) f (omega arith) low in
    let more = sum_below-more i f in
    let before = sum_below-nonnegative i f (λ v h. low v (omega arith)) in
    let here = low i test in
    let most = c.requires.most in
    let is = c.loop-tip.invariant in
    let fits : FitsSigned w128 (f i) = search rules in
    omega (arith, ints)
