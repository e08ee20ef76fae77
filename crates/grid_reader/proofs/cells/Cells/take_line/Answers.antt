use Rattle.std.proofs.Common.{◌≡◌, ◌++◌, ◌∷◌, ℕ, List, ap, sym, ◌∙◌, subst, append_assoc}
use Rattle.text_words.specs.Words.{gap_words}
use Rattle.grid_reader.specs.Faults.{IsCellFault}
use Rattle.grid_reader.proofs.cells.Cells.take_line.Goals as goal

pub returns-in-Err-clause-fault : goal.returns-in-Err-clause-fault
returns-in-Err-clause-fault c = λ parts more taken.
    let so_far = c.loop-word.invariant.taken parts taken in
    let words = gap_words c.args.line.now in
    let w = c.in-Some.word.now in
    let left = c.next.new.self in
    let fault = c.in-Err.fault in
    let here : IsCellFault c.loop-word.self.columns c.loop-word.self.total (so_far.0 ++ w ∷ (left ++ more)) fault = c.in-Err.ensures.fault so_far.0 (left ++ more) so_far.1 in
    let all : so_far.0 ++ w ∷ (left ++ more) ≡ parts ++ words ++ more =
    sym (append_assoc so_far.0 (w ∷ left) more) ∙ (ap (λ (ws : List (List ℕ)). ws ++ more) (ap (λ (ws : List (List ℕ)). so_far.0 ++ ws) (sym c.in-Some.ensures.steps) ∙ so_far.2)) in
    subst (λ (n : ℕ). IsCellFault n c.args.self.now.total (parts ++ words ++ more) fault) c.loop-word.invariant.columns_kept
    (subst (λ (n : ℕ). IsCellFault c.loop-word.self.columns n (parts ++ words ++ more) fault) c.loop-word.invariant.total_kept
    (subst (λ (xs : List (List ℕ)). IsCellFault c.loop-word.self.columns c.loop-word.self.total xs fault) all here))
