use Rattle.agg_base.proofs.WholeText.{one_whole}
use Rattle.agg_base.proofs.numeral.whole_law.Goals as goal

pub returns : goal.returns
returns c = one_whole
