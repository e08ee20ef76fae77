use Rattle.area_graph.proofs.OneProblem.{one_unknown_law}
use Rattle.area_graph.proofs.laws.one_unknown_law.Goals as goal

pub returns : goal.returns
returns c = one_unknown_law
