use Rattle.area_graph.proofs.OneProblem.{one_problem_law}
use Rattle.area_graph.proofs.laws.one_problem_law.Goals as goal

pub returns : goal.returns
returns c = one_problem_law
