use Rattle.std.proofs.Common.{◌++◌, ℕ, [], Option, sym, subst}
use Rattle.agg_base.specs.declared.line.Line.{Line}
use Rattle.agg_base.specs.Lines.{rows_left}
use Rattle.text_words.specs.Words.{gap_words}
use Rattle.grid_reader.specs.Cells.{body_words}
use Rattle.grid_reader.specs.Faults.{IsCellFault}
use Rattle.grid_reader.specs.Body.{body_of, IsBodyFault}
use Rattle.grid_reader.specs.Reading.{UnlessMemory}
use Rattle.grid_reader.proofs.BodyLemmas.{cell_body}
use Rattle.grid_reader.proofs.body.read_body.Goals as goal

pub returns-in-Err-clause-fault : goal.returns-in-Err-clause-fault
returns-in-Err-clause-fault c =
    let more = body_words (rows_left c.args.rest.now) in
    let parts = gap_words c.in-Some.line.text.now ++ more in
    let fault = c.in-Err.fault in
    let here : IsCellFault c.start-cells.result.columns c.start-cells.result.total parts fault = c.in-Err.ensures.fault [] more c.start-cells.ensures.taken in
    let same : IsCellFault c.args.columns c.args.total parts fault
    = subst (λ (n : ℕ). IsCellFault c.args.columns n parts fault) c.start-cells.ensures.total (subst (λ (n : ℕ). IsCellFault n c.start-cells.result.total parts fault) c.start-cells.ensures.columns here) in
    subst (λ (first : Option Line). UnlessMemory fault (IsBodyFault c.args.columns c.args.total (body_words (body_of first c.args.rest.now)) fault)) (sym c.in-Some.is) (cell_body c.args.columns c.args.total parts fault same)
