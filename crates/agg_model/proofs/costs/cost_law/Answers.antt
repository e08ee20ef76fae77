use Rattle.agg_model.proofs.CostLemmas.{cost_law}
use Rattle.agg_model.proofs.costs.cost_law.Goals as goal

pub returns : goal.returns
returns c = cost_law
