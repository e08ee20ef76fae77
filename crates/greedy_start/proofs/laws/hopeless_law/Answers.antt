use Rattle.greedy_start.proofs.HopelessLemmas.{hopeless_law}
use Rattle.greedy_start.proofs.laws.hopeless_law.Goals as goal

pub returns : goal.returns
returns c = hopeless_law
