use Rattle.std.proofs.Common.{◌∙◌}
use Rattle.generalise_steps.proofs.LineLemmas.{text_is}
use Rattle.check_steps.proofs.FlawLines.{due_line}
use Rattle.check_steps.proofs.verdict_lines.due_line.Goals as goal

pub returns : goal.returns
returns c = text_is _ _ _ _ c.of.ensures (c.as_str.ensures.value ∙ c.in_ok-format.ensures.ok) (due_line c.args.name.now c.args.due)
