use Rattle.std.proofs.Common.{arith, length, suc}
use Rattle.std.proofs.lemmas.Int.{ints}
use Rattle.agg_model.specs.Rules.{length_in}
use Rattle.agg_model.proofs.CostLemmas.{sum_below-part}
use Rattle.agg_model.proofs.rules.length_sum.Goals as goal

pub returns-in_default-clause-none : goal.returns-in_default-clause-none
returns-in_default-clause-none c =
    let part = sum_below-part (length c.args.links.now) (suc c.loop-link.link-index) (length_in c.args.links.now) (omega arith) c.requires in
    let none = c.in_default.ensures.none in
    omega (arith, ints)
