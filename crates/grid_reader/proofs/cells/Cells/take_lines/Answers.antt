use Rattle.std.proofs.Common.{◌≡◌, ◌++◌, ℕ, List, ap, sym, ◌∙◌, subst, append_assoc}
use Rattle.agg_base.specs.Lines.{Row, rows_left}
use Rattle.text_words.specs.Words.{gap_words}
use Rattle.grid_reader.specs.Cells.{body_words}
use Rattle.grid_reader.specs.Faults.{IsCellFault}
use Rattle.grid_reader.proofs.cells.Cells.take_lines.Goals as goal

pub returns-in-Err-clause-fault : goal.returns-in-Err-clause-fault
returns-in-Err-clause-fault c = λ parts taken.
    let so_far = c.loop-line.invariant.taken parts taken in
    let words = gap_words c.in-Some.line.text.now in
    let more = body_words (rows_left c.next.new.self) in
    let fault = c.in-Err.fault in
    let here : IsCellFault c.loop-line.self.columns c.loop-line.self.total (so_far.0 ++ words ++ more) fault = c.in-Err.ensures.fault so_far.0 more so_far.1 in
    let all : so_far.0 ++ words ++ more ≡ parts ++ body_words (rows_left c.args.rest.now) =
    append_assoc so_far.0 words more ∙ (sym (ap (λ (rows : List Row). so_far.0 ++ body_words rows) c.in-Some.ensures.steps) ∙ so_far.2) in
    subst (λ (n : ℕ). IsCellFault n c.args.self.now.total (parts ++ body_words (rows_left c.args.rest.now)) fault) c.loop-line.invariant.columns_kept
    (subst (λ (n : ℕ). IsCellFault c.loop-line.self.columns n (parts ++ body_words (rows_left c.args.rest.now)) fault) c.loop-line.invariant.total_kept
    (subst (λ (xs : List (List ℕ)). IsCellFault c.loop-line.self.columns c.loop-line.self.total xs fault) all here))
