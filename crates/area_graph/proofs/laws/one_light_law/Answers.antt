use Rattle.area_graph.proofs.OneProblem.{one_light_law}
use Rattle.area_graph.proofs.laws.one_light_law.Goals as goal

pub returns : goal.returns
returns c = one_light_law
