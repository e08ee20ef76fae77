use Rattle.area_graph.proofs.OneProblem.{light_law}
use Rattle.area_graph.proofs.laws.light_law.Goals as goal

pub returns : goal.returns
returns c = light_law
