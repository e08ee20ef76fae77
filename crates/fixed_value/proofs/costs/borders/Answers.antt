use Rattle.std.proofs.Common.{◌≡◌, ◌<◌, ℕ, arith, length, ap, slice_index}
use Rattle.std.proofs.lemmas.Int.{ints}
use Rattle.whole_ring.specs.Sums.{sum_below, when}
use Rattle.agg_model.specs.Problem.{areas, weight_of, length_of}
use Rattle.std.specs.Prelude.{not}
use Rattle.row_laws.specs.Fixed.{is_same_kind}
use Rattle.whole_ring.proofs.Sums.{sum_below-more, sum_below-nonnegative}
use Rattle.agg_model.proofs.CostLemmas.{length_at_most, weights_nonnegative, sums_are_small}
use Rattle.fixed_value.proofs.costs.borders.Goals as goal

pub overflow_add-sum : goal.overflow_add-sum
overflow_add-sum c =
    let all = (sums_are_small c.args.problem.now c.link_count-link-end.ensures.rules).lengths in
    let lt : c.loop-link.link < length c.args.problem.now.links = omega arith in
    let here = length_at_most c.args.problem.now c.link_count-link-end.ensures.rules c.loop-link.link lt in
    let low = c.across-sum.ensures.least in
    let high = c.across-sum.ensures.most in
    let sum_low = c.loop-link.invariant.1 in
    let sum_high = c.loop-link.invariant.2 in
    omega (arith, ints)

pub loop-link-preserved : goal.loop-link-preserved
loop-link-preserved c =
    let all = (sums_are_small c.args.problem.now c.link_count-link-end.ensures.rules).lengths in
    let lt : c.loop-link.link < length c.args.problem.now.links = omega arith in
    let here = length_at_most c.args.problem.now c.link_count-link-end.ensures.rules c.loop-link.link lt in
    let weights = sum_below-more c.loop-link.link (length_of c.args.problem.now) in
    let costs = sum_below-more c.loop-link.link (λ l. when (not (is_same_kind c.args.problem.now (λ v. slice_index c.args.kinds.now v) l)) (length_of c.args.problem.now l)) in
    let value = c.across-sum.ensures.value in
    let low = c.across-sum.ensures.least in
    let high = c.across-sum.ensures.most in
    let sum_is = c.loop-link.invariant.0 in
    let sum_low = c.loop-link.invariant.1 in
    let sum_high = c.loop-link.invariant.2 in
    (omega (arith, ints), omega (arith, ints), omega (arith, ints))

pub returns-clause-most : goal.returns-clause-most
returns-clause-most c =
    let p = c.args.problem.now in
    let weights = sum_below-nonnegative (areas p) (weight_of p) (weights_nonnegative p c.link_count-link-end.ensures.rules) in
    let whole = c.link_count-link-end.ensures.rules.small in
    let all : c.loop-link.link ≡ length p.links = omega arith in
    let same = ap (λ (n : ℕ). sum_below n (length_of p)) all in
    let high = c.loop-link.invariant.2 in
    omega (arith, ints)
