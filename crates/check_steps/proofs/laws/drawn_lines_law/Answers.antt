use Rattle.check_steps.proofs.ReadLemmas.{drawn_lines}
use Rattle.check_steps.proofs.laws.drawn_lines_law.Goals as goal

pub returns : goal.returns
returns c = drawn_lines
