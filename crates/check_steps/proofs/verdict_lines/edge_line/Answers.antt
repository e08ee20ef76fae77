use Rattle.std.proofs.Common.{◌∙◌}
use Rattle.generalise_steps.proofs.LineLemmas.{text_is}
use Rattle.check_steps.proofs.FlawLines.{edge_line}
use Rattle.check_steps.proofs.verdict_lines.edge_line.Goals as goal

pub returns : goal.returns
returns c = text_is _ _ _ _ c.of.ensures (c.as_str.ensures.value ∙ c.in_ok-format.ensures.ok) (edge_line c.args.region c.args.edge)
