use Rattle.std.proofs.Common.{◌∙◌}
use Rattle.generalise_steps.proofs.LineLemmas.{text_is}
use Rattle.check_steps.proofs.FlawLines.{valid_line}
use Rattle.check_steps.proofs.verdict_lines.valid_line.Goals as goal

pub returns : goal.returns
returns c = text_is _ _ _ _ c.of.ensures (c.as_str.ensures.value ∙ (rw c.word_of-status.ensures at c.in_ok-format.ensures.ok)) (valid_line c.args.certificate.now)
