use Rattle.std.proofs.Common.{◌+◌, arith}
use Rattle.std.proofs.lemmas.Int.{ints}
use Rattle.agg_model.proofs.CostLemmas.{weights_nonnegative, one_weight}
use Rattle.row_laws.proofs.Tests.{clash}
use Rattle.bound_rows.proofs.RowRunLemmas.{set_weight_next, set_weight_part, set_weight_least}
use Rattle.bound_rows.proofs.sums.is_lighter.Goals as goal

pub returns-then-threshold-le0 : goal.returns-then-threshold-le0
returns-then-threshold-le0 c =
    let p = c.args.problem.now in
    let least = set_weight_least p c.args.set.now (λ j h. weights_nonnegative p c.requires.rules _ (c.requires.within j h)) in
    let low = c.if-threshold-le0.true in
    let range = c.ranges.threshold in
    (λ f. clash f, λ less. absurd (omega (arith, ints)))

pub returns-then-rest-le0 : goal.returns-then-rest-le0
returns-then-rest-le0 c =
    let p = c.args.problem.now in
    let xs = c.args.set.now in
    let i = c.loop-member.member-index in
    let next = set_weight_next p xs i c.loop-member-test.true in
    let part = set_weight_part p xs (i + 1) (λ j h. weights_nonnegative p c.requires.rules _ (c.requires.within j h)) in
    let w = c.weight-rest.ensures.value in
    let is = c.loop-member.rest-is in
    let here = c.loop-member.invariant.0 in
    let heavy = one_weight p c.requires.rules _ (c.requires.within i c.loop-member-test.true) in
    let above = c.loop-member.invariant.1 in
    let most = c.loop-member.invariant.2 in
    let low = c.if-rest-le0.true in
    let range = c.ranges.threshold in
    (λ f. clash f, λ less. absurd (omega (arith, ints)))

pub loop-member-preserved : goal.loop-member-preserved
loop-member-preserved c =
    let p = c.args.problem.now in
    let xs = c.args.set.now in
    let i = c.loop-member.member-index in
    let next = set_weight_next p xs i c.loop-member-test.true in
    let heavy = one_weight p c.requires.rules _ (c.requires.within i c.loop-member-test.true) in
    let w = c.weight-rest.ensures.value in
    let is = c.loop-member.rest-is in
    let here = c.loop-member.invariant.0 in
    let above = c.loop-member.invariant.1 in
    let most = c.loop-member.invariant.2 in
    let high = c.if-rest-le0.false in
    let range = c.ranges.threshold in
    (omega (arith, ints), omega (arith, ints), omega (arith, ints))
