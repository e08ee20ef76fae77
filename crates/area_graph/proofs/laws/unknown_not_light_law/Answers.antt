use Rattle.area_graph.proofs.OneProblem.{unknown_not_light_law}
use Rattle.area_graph.proofs.laws.unknown_not_light_law.Goals as goal

pub returns : goal.returns
returns c = unknown_not_light_law
