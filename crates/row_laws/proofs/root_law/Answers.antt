use Rattle.row_laws.proofs.LeafLemmas.{root_law}
use Rattle.row_laws.proofs.root_law.Goals as goal

pub returns : goal.returns
returns c = root_law
