use Rattle.std.proofs.Common.{arith, length, suc}
use Rattle.std.proofs.lemmas.Int.{ints}
use Rattle.agg_model.specs.Rules.{weight_in}
use Rattle.agg_model.proofs.CostLemmas.{sum_below-part}
use Rattle.agg_model.proofs.rules.weight_sum.Goals as goal

pub returns-in_default-clause-none : goal.returns-in_default-clause-none
returns-in_default-clause-none c =
    let part = sum_below-part (length c.args.weight.now) (suc c.loop-one.one-index) (weight_in c.args.weight.now) (omega arith) c.requires in
    let none = c.in_default.ensures.none in
    omega (arith, ints)
