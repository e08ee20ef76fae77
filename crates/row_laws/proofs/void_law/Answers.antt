use Rattle.row_laws.proofs.VoidLemmas.{void_law}
use Rattle.row_laws.proofs.void_law.Goals as goal

pub returns : goal.returns
returns c = void_law
