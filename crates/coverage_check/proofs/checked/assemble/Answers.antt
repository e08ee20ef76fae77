use Rattle.std.proofs.Common.{ap, arith, length, List}
use Rattle.coverage_check.specs.Kept.{OddArea}
use Rattle.coverage_check.proofs.CheckLemmas.{kept_short}
use Rattle.coverage_check.proofs.checked.assemble.Goals as goal

pub overflow_sub-left_out : goal.overflow_sub-left_out
overflow_sub-left_out c =
    let k = kept_short c.args.coverage.areas.items in
    let e = ap (λ (xs : List OddArea). length xs) c.requires.kept in
    let a = c.len.ensures in
    let b = c.len-2.ensures in
    omega (arith, k, e, a, b, c.args.areas.ok, c.args.coverage.areas.ok)

pub returns-clause-passed : goal.returns-clause-passed
returns-clause-passed c =
    let k = kept_short c.args.coverage.areas.items in
    let e = ap (λ (xs : List OddArea). length xs) c.requires.kept in
    let a = c.len.ensures in
    let b = c.len-2.ensures in
    omega (arith, k, e, a, b, c.args.areas.ok, c.args.coverage.areas.ok)
