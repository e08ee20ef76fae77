use Rattle.std.proofs.Common.{◌∙◌}
use Rattle.generalise_steps.proofs.LineLemmas.{text_is, number_line}
use Rattle.generalise_steps.proofs.map_lines.number_line.Goals as goal

pub returns : goal.returns
returns c = text_is _ _ _ _ c.of.ensures (c.as_str.ensures.value ∙ c.in_ok-format.ensures.ok) (number_line c.args.file.now c.args.name.now c.args.number)
