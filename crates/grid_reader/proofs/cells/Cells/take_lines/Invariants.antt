use Rattle.std.proofs.Common.{◌≡◌, ◌+◌, ◌++◌, List, ℕ, length}
use Rattle.agg_base.specs.Lines.{rows_left}
use Rattle.grid_reader.specs.Cells.{HasTaken, body_words}
use Rattle.grid_reader.proofs.cells.Cells.take_lines.Given as goal

abbrev pub invariant-loop-line : goal.invariant-loop-line
invariant-loop-line l = record {
  columns_kept : l.self.columns ≡ l.initial.self.columns;
  total_kept : l.self.total ≡ l.initial.self.total;
  counted : l.self.found + length (body_words (rows_left l.rest)) ≡ l.initial.self.found + length (body_words (rows_left l.initial.rest));
  taken : (parts : List (List ℕ)) → HasTaken l.initial.self parts → (whole : List (List ℕ)) × HasTaken l.self whole × (whole ++ body_words (rows_left l.rest) ≡ parts ++ body_words (rows_left l.initial.rest));
}

abbrev pub decreases-loop-line : goal.decreases-loop-line
decreases-loop-line l = length (rows_left l.rest)
