use Rattle.std.proofs.Common.{◌<◌, length, arith}
use Rattle.union_find.proofs.StepLemmas.{halved, halved_down, flat_more}
use Rattle.union_find.proofs.steps.flatten.Goals as goal

pub loop-member-preserved : goal.loop-member-preserved
loop-member-preserved c =
    let f = c.loop-member.above in
    let v = c.loop-member.member in
    let inv = c.loop-member.invariant in
    let h : v < length f = omega arith in
    (halved_down f v h inv.0, λ label_of old. (halved label_of f v h (inv.1 label_of old).0, flat_more label_of f v h (inv.1 label_of old).0 (inv.1 label_of old).1))

pub returns-clause-labels : goal.returns-clause-labels
returns-clause-labels c label_of old i h = (c.loop-member.invariant.1 label_of old).1 i (omega arith)
