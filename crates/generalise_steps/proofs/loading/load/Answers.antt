use Rattle.std.proofs.Common.{◌≡◌, Err, rules}
use Rattle.generalise_steps.specs.Refusals.{Refuses}
use Rattle.generalise_steps.proofs.StepLemmas.{of_line, map_refused}
use Rattle.generalise_steps.proofs.loading.load.Goals as goal

pub returns-in_err-coverage-clause-refused : goal.returns-in_err-coverage-clause-refused
returns-in_err-coverage-clause-refused g c = λ line e.
    let same : c.from_residual.result ≡ Err c.in_err-coverage.field-0.0 = search rules in
    map_refused c.args.format.now c.args.map.now c.args.table.now line c.in_err-coverage.field-0.0 c.in_err-coverage.ensures.refused (cc)

pub returns-in_err-table-clause-refused : goal.returns-in_err-table-clause-refused
returns-in_err-table-clause-refused g c = λ line e.
    let same : c.from_residual-in_err-table.result ≡ Err c.in_err-table.field-0.0 = search rules in
    of_line c.in_err-table.field-0.0 (Refuses c.args.format.now c.args.map.now c.args.table.now) line
    (c.in_err-table.ensures.refused c.args.format.now c.args.map.now _ c.in_ok-coverage.ensures.found) (cc)

pub returns-in_err-checked-clause-refused : goal.returns-in_err-checked-clause-refused
returns-in_err-checked-clause-refused g c = λ line e.
    let same : c.from_residual-in_err-checked.result ≡ Err c.in_err-checked.field-0.0 = search rules in
    of_line c.in_err-checked.field-0.0 (Refuses c.args.format.now c.args.map.now c.args.table.now) line
    (c.in_err-checked.ensures.refused c.args.format.now c.args.map.now c.args.table.now c.in_ok-table.table c.in_ok-coverage.ensures.found c.in_ok-table.ensures.found) (cc)

pub returns-in_err-problem-clause-refused : goal.returns-in_err-problem-clause-refused
returns-in_err-problem-clause-refused g c = λ line e.
    let same : c.from_residual-in_err-problem.result ≡ Err c.in_err-problem.field-0.0 = search rules in
    of_line c.in_err-problem.field-0.0 (Refuses c.args.format.now c.args.map.now c.args.table.now) line
    (c.in_err-problem.ensures.refused c.args.format.now c.args.map.now c.args.table.now (c.in_ok-checked.ensures.found c.args.format.now c.args.map.now c.in_ok-coverage.ensures.found) c.in_ok-table.ensures.found) (cc)
