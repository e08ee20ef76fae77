use Rattle.std.proofs.Common.{rules, arith}
use Rattle.cert_text.specs.TreeTexts.{row_line}
use Rattle.cert_text.proofs.TextLemmas.{appends_item}
use Rattle.cert_text.proofs.tree_writer.push_rows.Goals as goal

pub loop-row-preserved : goal.loop-row-preserved
loop-row-preserved c = appends_item row_line _ _ _ _ _ _ (omega arith) (search rules) c.loop-row.invariant c.in_ok-push_row.ensures
