use Rattle.std.proofs.Common.{◌∙◌}
use Rattle.generalise_steps.proofs.LineLemmas.{text_is, limit_line}
use Rattle.generalise_steps.proofs.map_lines.limit_line.Goals as goal

pub returns : goal.returns
returns c = text_is _ _ _ _ c.of.ensures (c.as_str.ensures.value ∙ (rw c.word_of-word.ensures at c.in_ok-format.ensures.ok)) (limit_line c.args.file.now c.args.limit)
