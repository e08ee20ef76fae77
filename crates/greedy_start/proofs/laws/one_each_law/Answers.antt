use Rattle.greedy_start.proofs.OneEachLemmas.{one_each_law}
use Rattle.greedy_start.proofs.laws.one_each_law.Goals as goal

pub returns : goal.returns
returns c = one_each_law
