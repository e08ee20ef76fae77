use Rattle.std.proofs.Common.{map, take}
use Rattle.cert_text.specs.Gives.{Appends}
use Rattle.cert_text.specs.TreeTexts.{row_line}
use Rattle.cert_text.proofs.tree_writer.push_rows.Given as goal

abbrev pub invariant-loop-row : goal.invariant-loop-row
invariant-loop-row l = Appends l.initial.out.items (map row_line (take l.row-index l.rows)) l.out.items
