use Rattle.std.proofs.Common.{◌≡◌, ◌∙◌, ◌<◌, ap, arith, length, ℕ, slice_index}
use Rattle.whole_ring.specs.Sums.{sum_below}
use Rattle.std.proofs.lemmas.Int.{ints}
use Rattle.agg_model.specs.Problem.{areas, weight_of, length_of, recolouring}
use Rattle.whole_ring.proofs.Sums.{sum_below-more, sum_below-nonnegative}
use Rattle.agg_model.proofs.CostLemmas.{weight_at_most, sums_are_small}
use Rattle.fixed_value.proofs.costs.recolouring.Goals as goal

pub overflow_add-sum : goal.overflow_add-sum
overflow_add-sum c =
    let all = (sums_are_small c.args.problem.now c.areas-area-end.ensures.rules).weights in
    let lt : c.loop-area.area < areas c.args.problem.now = omega arith in
    let here = weight_at_most c.args.problem.now c.areas-area-end.ensures.rules c.loop-area.area lt in
    let low = c.recolour-sum.ensures.least in
    let high = c.recolour-sum.ensures.most in
    let sum_low = c.loop-area.invariant.1 in
    let sum_high = c.loop-area.invariant.2 in
    omega (arith, ints)

pub loop-area-preserved : goal.loop-area-preserved
loop-area-preserved c =
    let all = (sums_are_small c.args.problem.now c.areas-area-end.ensures.rules).weights in
    let lt : c.loop-area.area < areas c.args.problem.now = omega arith in
    let here = weight_at_most c.args.problem.now c.areas-area-end.ensures.rules c.loop-area.area lt in
    let weights = sum_below-more c.loop-area.area (weight_of c.args.problem.now) in
    let costs = sum_below-more c.loop-area.area (λ v. recolouring c.args.problem.now v (slice_index c.args.kinds.now v)) in
    let value = c.recolour-sum.ensures.value in
    let low = c.recolour-sum.ensures.least in
    let high = c.recolour-sum.ensures.most in
    let sum_is = c.loop-area.invariant.0 in
    let sum_low = c.loop-area.invariant.1 in
    let sum_high = c.loop-area.invariant.2 in
    (omega (arith, ints), omega (arith, ints), omega (arith, ints))

pub returns-clause-most : goal.returns-clause-most
returns-clause-most c =
    let p = c.args.problem.now in
    let lengths = sum_below-nonnegative (length p.links) (length_of p) c.areas-area-end.ensures.rules.lengths in
    let whole = c.areas-area-end.ensures.rules.small in
    let all : c.loop-area.area ≡ areas p = omega arith in
    let same = ap (λ (n : ℕ). sum_below n (weight_of p)) all in
    let high = c.loop-area.invariant.2 in
    omega (arith, ints)
