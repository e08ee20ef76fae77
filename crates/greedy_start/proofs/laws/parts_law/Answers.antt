use Rattle.greedy_start.proofs.PartLemmas.{parts_law}
use Rattle.greedy_start.proofs.laws.parts_law.Goals as goal

pub returns : goal.returns
returns c = parts_law
