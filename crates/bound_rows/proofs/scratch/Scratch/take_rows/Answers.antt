use Rattle.std.proofs.Common.{◌+◌, ◌∙◌, refl, rules}
use Rattle.std.specs.Prelude.{FitsSigned}
use Rattle.std.specs.Int.{w128}
use Rattle.std.proofs.lemmas.Int.{to_z-of_z}
use Rattle.std.proofs.lemmas.Result.{err_from_is_err_and}
use Rattle.row_laws.specs.Exact.{run}
use Rattle.bound_rows.proofs.RowRunLemmas.{rows_next, rows_ended, scaled_run}
use Rattle.bound_rows.proofs.scratch.Scratch.take_rows.Goals as goal

pub loop-row-init : goal.loop-row-init
unfolding run
loop-row-init c = (c.requires.scratch, refl, λ f h. h)

pub returns-in_err-take_row-clause-run : goal.returns-in_err-take_row-clause-run
returns-in_err-take_row-clause-run c = λ f h.
    let i = c.loop-row.row-index in
    let fits : FitsSigned w128 c.loop-row-item.result.1 = search rules in
    let p = err_from_is_err_and c.from_residual.result c.from_residual.ensures.1 in
    rw (p.1, p.2)
    (rows_ended c.args.problem.now f c.args.rows.now (i + 1) _ _
    (rows_next c.args.problem.now f c.args.rows.now i c.loop-row-item.result c.loop-row.self.numbers _ _ c.loop-row-test.true c.loop-row-item.is (c.loop-row.invariant.2 f h) (λ g at. scaled_run c.args.problem.now g _ _ c.loop-row-item.result.0 c.loop-row-item.result.0 _ _ (to_z-of_z w128 c.loop-row-item.result.1 fits) refl (c.in_err-take_row.ensures.run g at))))

pub loop-row-preserved : goal.loop-row-preserved
loop-row-preserved c =
    let fits : FitsSigned w128 c.loop-row-item.result.1 = search rules in (
      c.in_ok-take_row.ensures.scratch,
      c.in_ok-take_row.ensures.ways ∙ c.loop-row.invariant.1,
      λ f h. rows_next c.args.problem.now f c.args.rows.now c.loop-row.row-index c.loop-row-item.result c.loop-row.self.numbers _ _ c.loop-row-test.true c.loop-row-item.is (c.loop-row.invariant.2 f h) (λ g at. scaled_run c.args.problem.now g _ _ c.loop-row-item.result.0 c.loop-row-item.result.0 _ _ (to_z-of_z w128 c.loop-row-item.result.1 fits) refl (c.in_ok-take_row.ensures.run g at)),
    )
