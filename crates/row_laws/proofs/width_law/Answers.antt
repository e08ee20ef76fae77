use Rattle.row_laws.proofs.WidthLemmas.{width_law}
use Rattle.row_laws.proofs.width_law.Goals as goal

pub returns : goal.returns
returns c = width_law
