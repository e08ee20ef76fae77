use Rattle.std.proofs.Common.{◌<◌, arith}
use Rattle.std.proofs.lemmas.Int.{ints}
use Rattle.bound_rows.proofs.sums.is_escape.Goals as goal

pub is_lighter-requires-clause-most : goal.is_lighter-requires-clause-most
is_lighter-requires-clause-most c =
    let below : c.args.class < c.args.problem.now.classes = omega (arith, c.if-class-classes.false, c.classes.ensures.value) in
    let most = c.areas.ensures.rules.threshold_most c.args.class below in
    let is = c.threshold.ensures in
    omega (arith, ints)
