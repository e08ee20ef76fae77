use Rattle.std.proofs.Common.{ℕ, ap, arith}
use Rattle.std.specs.Prelude.{◌||◌, ◌==◌}
use Rattle.std.proofs.lemmas.Int.{ints}
use Rattle.agg_model.proofs.CostLemmas.{weight_at_most, weights_nonnegative, sums_are_small}
use Rattle.fixed_value.proofs.tallies.tally_with.Goals as goal

pub overflow_add-result : goal.overflow_add-result
overflow_add-result c =
    let p = c.args.problem.now in
    let all = (sums_are_small p c.weight.ensures.rules).weights in
    let here = weight_at_most p c.weight.ensures.rules c.args.area c.requires.area in
    let one = weights_nonnegative p c.weight.ensures.rules c.args.area c.requires.area in
    let weight = c.weight.ensures.value in
    let least = c.requires.light.least in
    let most = c.requires.light.most in
    omega (arith, ints)

pub returns-clause-weight : goal.returns-clause-weight
returns-clause-weight c =
    let p = c.args.problem.now in
    let all = (sums_are_small p c.weight.ensures.rules).weights in
    let here = weight_at_most p c.weight.ensures.rules c.args.area c.requires.area in
    let one = weights_nonnegative p c.weight.ensures.rules c.args.area c.requires.area in
    let weight = c.weight.ensures.value in
    let least = c.requires.light.least in
    let most = c.requires.light.most in
    omega (arith, ints)
