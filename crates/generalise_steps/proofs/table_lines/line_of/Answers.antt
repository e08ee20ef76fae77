use Rattle.std.proofs.Common.{◌∙◌}
use Rattle.generalise_steps.proofs.LineLemmas.{text_is, rule_line}
use Rattle.generalise_steps.proofs.table_lines.line_of.Goals as goal

pub returns-in_ok-format-in-Line-clause-line : goal.returns-in_ok-format-in-Line-clause-line
returns-in_ok-format-in-Line-clause-line c = rw c.in-Line.is
    (text_is _ _ _ _ c.of.ensures (c.as_str.ensures.value ∙ (rw c.word_of.ensures at c.in_ok-format-in-Line.ensures.ok)) (rule_line c.in-Line.number c.in-Line.why))
