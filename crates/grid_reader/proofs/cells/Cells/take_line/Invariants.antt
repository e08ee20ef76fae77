use Rattle.std.proofs.Common.{◌≡◌, ◌+◌, ◌++◌, ℕ, List, length}
use Rattle.text_words.specs.Words.{gap_words}
use Rattle.grid_reader.specs.Cells.{HasTaken}
use Rattle.grid_reader.proofs.cells.Cells.take_line.Given as goal

abbrev pub invariant-loop-word : goal.invariant-loop-word
invariant-loop-word l = record {
  columns_kept : l.self.columns ≡ l.initial.self.columns;
  total_kept : l.self.total ≡ l.initial.self.total;
  counted : l.self.found + length l.rest ≡ l.initial.self.found + length (gap_words l.line);
  taken : (parts : List (List ℕ)) → HasTaken l.initial.self parts → (whole : List (List ℕ)) × HasTaken l.self whole × (whole ++ l.rest ≡ parts ++ gap_words l.line);
}

abbrev pub decreases-loop-word : goal.decreases-loop-word
decreases-loop-word l = length l.rest
