use Rattle.std.proofs.Common.{◌≡◌, ℕ, ◌<◌, ◌≤◌, arith, ap, sym, subst, Err, length, refl}
use Rattle.std.specs.Prelude.{Result}
use Rattle.std.proofs.lemmas.Result.{err_from_is_err_and}
use Rattle.agg_model.specs.declared.feasibility.Lack.{Lack}
use Rattle.agg_model.specs.Problem.{IsFeasible}
use Rattle.agg_model.specs.Lacks.{IsFirstLack, region_in}
use Rattle.agg_model.specs.Tops.{IsRich, IsRichAnswer, IsShapeAnswer}
use Rattle.agg_model.proofs.LackLemmas.{lacks_nothing, poor_first, broken_first, broken_below, rich_decides}
use Rattle.agg_model.proofs.feasibility.feasible.Goals as goal

poor : (c : goal.After-from_residual) → IsFirstLack c.args.problem.now c.args.grouping.now c.in_err-first_poor-in-Err.field-0.0
poor c =
    let p = c.args.problem.now in
    let g = c.args.grouping.now in
    let below = broken_below p g c.in-Err.lack c.in-Err.ensures.answer in
    let less = below.0 in
    poor_first p g (region_in c.in-Err.lack) c.in_err-first_poor-in-Err.field-0.0 (omega arith) below.1
    (subst (λ (n : ℕ). IsRichAnswer p g n (Err c.in_err-first_poor-in-Err.field-0.0)) c.region.ensures c.in_err-first_poor-in-Err.ensures.answer)

pub returns-in_err-first_poor-in-Err-clause-feasible : goal.returns-in_err-first_poor-in-Err-clause-feasible
returns-in_err-first_poor-in-Err-clause-feasible c =
    let e = err_from_is_err_and c.from_residual.result c.from_residual.ensures.1 in
    rw e.1 (λ t. cc, λ ok. absurd (lacks_nothing c.args.problem.now c.args.grouping.now ok _ (poor c)))

pub returns-in_err-first_poor-in-Err-clause-lack : goal.returns-in_err-first_poor-in-Err-clause-lack
returns-in_err-first_poor-in-Err-clause-lack c =
    let e = err_from_is_err_and c.from_residual.result c.from_residual.ensures.1 in
    rw (e.1, e.2) (poor c)

pub returns-in-Ok-clause-feasible : goal.returns-in-Ok-clause-feasible
returns-in-Ok-clause-feasible c =
    let p = c.args.problem.now in
    let g = c.args.grouping.now in
    (rich_decides p g c.first_poor.result c.requires.numbered c.in-Ok.ensures.answer (subst (λ (n : ℕ). IsRichAnswer p g n c.first_poor.result) c.regions.ensures c.first_poor.ensures.answer)).0

pub returns-in-Ok-clause-lack : goal.returns-in-Ok-clause-lack
returns-in-Ok-clause-lack c =
    let p = c.args.problem.now in
    let g = c.args.grouping.now in
    (rich_decides p g c.first_poor.result c.requires.numbered c.in-Ok.ensures.answer (subst (λ (n : ℕ). IsRichAnswer p g n c.first_poor.result) c.regions.ensures c.first_poor.ensures.answer)).1

broken : (c : goal.In_ok-first_poor-in-Err) → IsFirstLack c.args.problem.now c.args.grouping.now c.in-Err.lack
broken c =
    let p = c.args.problem.now in
    let g = c.args.grouping.now in
    broken_first p g c.in-Err.lack c.in-Err.ensures.answer (subst (λ (n : ℕ). (r : ℕ) → r < n → IsRich p g r) c.region.ensures c.in_ok-first_poor-in-Err.ensures.answer)

pub returns-in_ok-first_poor-in-Err-clause-feasible : goal.returns-in_ok-first_poor-in-Err-clause-feasible
returns-in_ok-first_poor-in-Err-clause-feasible c =
    (λ t. cc, λ ok. absurd (lacks_nothing c.args.problem.now c.args.grouping.now ok c.in-Err.lack (broken c)))

pub returns-in_ok-first_poor-in-Err-clause-lack : goal.returns-in_ok-first_poor-in-Err-clause-lack
returns-in_ok-first_poor-in-Err-clause-lack c = broken c
