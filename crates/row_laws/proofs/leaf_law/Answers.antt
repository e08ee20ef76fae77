use Rattle.row_laws.proofs.LeafLemmas.{leaf_law}
use Rattle.row_laws.proofs.leaf_law.Goals as goal

pub returns : goal.returns
returns c = leaf_law
