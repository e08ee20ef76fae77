use Rattle.std.proofs.Common.{◌<◌, arith, slice_index}
use Rattle.bound_rows.specs.Domains.{allows}
use Rattle.branch_bound.proofs.LawLemmas.{kind_is}
use Rattle.branch_bound.proofs.components.kinds_of.Goals as goal

pub returns-clause-kinds : goal.returns-clause-kinds
returns-clause-kinds c = λ v h.
    let end = c.areas-area-end.ensures.value in
    let test = c.loop-area-test.false in
    let below : v < c.loop-area.area = omega arith in
    kind_is c.args.problem.now (allows c.args.domains.now) v (slice_index c.loop-area.kinds.items v) c.requires.single h (c.loop-area.invariant.below v below) (c.loop-area.invariant.allowed v below)
