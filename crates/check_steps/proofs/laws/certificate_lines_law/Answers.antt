use Rattle.check_steps.proofs.ReadLemmas.{certificate_lines}
use Rattle.check_steps.proofs.laws.certificate_lines_law.Goals as goal

pub returns : goal.returns
returns c = certificate_lines
