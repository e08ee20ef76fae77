use Rattle.std.proofs.Common.{sym, ◌∙◌, arith}
use Rattle.row_laws.proofs.Tests.{clash}
use Rattle.bound_rows.proofs.KindLemmas.{single_classes}
use Rattle.branch_bound.proofs.PairLemmas.{so_far_single, so_far_several, so_far_below}
use Rattle.branch_bound.proofs.pairs.heaviest.Goals as goal

pub loop-area-preserved-then-single : goal.loop-area-preserved-then-single
loop-area-preserved-then-single c =
    let few = c.areas-area-end.ensures.rules.few_classes in
    let end = c.areas-area-end.ensures.value in
    let test = c.loop-area-test.true in
    so_far_single c.args.problem.now c.args.domains.now c.loop-area.area c.loop-area.found
    ((single_classes c.args.problem.now c.args.domains.now c.loop-area.area few c.requires.domains (omega arith)).0 (c.single.ensures.0 c.if-single.true)) c.loop-area.invariant

pub heavier-requires-clause-found : goal.heavier-requires-clause-found
heavier-requires-clause-found c = so_far_below c.args.problem.now c.args.domains.now c.loop-area.area c.loop-area.found c.loop-area.invariant

pub loop-area-preserved : goal.loop-area-preserved
loop-area-preserved c =
    let few = c.areas-area-end.ensures.rules.few_classes in
    let end = c.areas-area-end.ensures.value in
    let test = c.loop-area-test.true in
    so_far_several c.args.problem.now c.args.domains.now c.loop-area.area c.loop-area.found c.heavier.result (omega arith)
    (λ single. clash (sym c.if-single.false ∙ c.single.ensures.1 ((single_classes c.args.problem.now c.args.domains.now c.loop-area.area few c.requires.domains (omega arith)).1 single))) c.loop-area.invariant c.heavier.ensures
