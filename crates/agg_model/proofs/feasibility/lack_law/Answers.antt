use Rattle.agg_model.proofs.LackLemmas.{lack_law}
use Rattle.agg_model.proofs.feasibility.lack_law.Goals as goal

pub returns : goal.returns
returns c = lack_law
