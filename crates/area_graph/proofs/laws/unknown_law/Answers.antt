use Rattle.area_graph.proofs.OneProblem.{unknown_law}
use Rattle.area_graph.proofs.laws.unknown_law.Goals as goal

pub returns : goal.returns
returns c = unknown_law
