use Rattle.std.proofs.Common.{arith}
use Rattle.std.proofs.lemmas.Int.{ints}
use Rattle.agg_model.proofs.CostLemmas.{weight_at_most, weights_nonnegative, sums_are_small}
use Rattle.greedy_start.proofs.choices.tally_with.Goals as goal

pub overflow_add-result : goal.overflow_add-result
overflow_add-result c =
    let p = c.args.problem.now in
    let all = (sums_are_small p c.weight.ensures.rules).weights in
    let here = weight_at_most p c.weight.ensures.rules c.args.area c.requires.area in
    let one = weights_nonnegative p c.weight.ensures.rules c.args.area c.requires.area in
    let weight = c.weight.ensures.value in
    let least = c.requires.light.weight_least in
    let most = c.requires.light.weight_most in
    omega (arith, ints)

pub returns-clause-weight : goal.returns-clause-weight
returns-clause-weight c =
    let p = c.args.problem.now in
    let all = (sums_are_small p c.weight.ensures.rules).weights in
    let here = weight_at_most p c.weight.ensures.rules c.args.area c.requires.area in
    let one = weights_nonnegative p c.weight.ensures.rules c.args.area c.requires.area in
    let weight = c.weight.ensures.value in
    let least = c.requires.light.weight_least in
    let most = c.requires.light.weight_most in
    omega (arith, ints)

pub overflow_add-result-2 : goal.overflow_add-result-2
overflow_add-result-2 c =
    let p = c.args.problem.now in
    let all = (sums_are_small p c.weight.ensures.rules).weights in
    let here = weight_at_most p c.weight.ensures.rules c.args.area c.requires.area in
    let low = c.recolour.ensures.least in
    let high = c.recolour.ensures.most in
    let least = c.requires.light.recolouring_least in
    let most = c.requires.light.recolouring_most in
    omega (arith, ints)

pub returns-clause-recolouring : goal.returns-clause-recolouring
returns-clause-recolouring c =
    let p = c.args.problem.now in
    let all = (sums_are_small p c.weight.ensures.rules).weights in
    let here = weight_at_most p c.weight.ensures.rules c.args.area c.requires.area in
    let value = c.recolour.ensures.value in
    let low = c.recolour.ensures.least in
    let high = c.recolour.ensures.most in
    let least = c.requires.light.recolouring_least in
    let most = c.requires.light.recolouring_most in
    omega (arith, ints)
