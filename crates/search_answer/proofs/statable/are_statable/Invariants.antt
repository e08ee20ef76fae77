use Rattle.std.proofs.Common.{◌<◌, ℕ}
use Rattle.cert_text.specs.Lines.{IsMultiplier}
use Rattle.row_laws.specs.Values.{row_in}
use Rattle.search_answer.proofs.statable.are_statable.Given as goal

abbrev pub invariant-loop-at : goal.invariant-loop-at
invariant-loop-at l = (i : ℕ) → i < l.at → IsMultiplier (row_in l.rows i).1
