use Rattle.agg_base.proofs.RootLemmas.{root_is_greatest}
use Rattle.agg_base.proofs.root.root_law.Goals as goal

pub returns : goal.returns
returns c = root_is_greatest
