use Rattle.std.proofs.Common.{sym, ◌∙◌, arith}
use Rattle.row_laws.proofs.Tests.{clash}
use Rattle.branch_bound.proofs.pairs.first_class.Goals as goal

pub unreachable-requires : goal.unreachable-requires
unreachable-requires c =
    let some = c.requires.domains.filled c.args.area c.requires.area in
    let below = c.requires.domains.below c.args.area some.0 c.requires.area some.1 in
    let end = c.classes-class-end.ensures.value in
    clash (sym (c.loop-class.invariant some.0 (omega arith)) ∙ some.1)
