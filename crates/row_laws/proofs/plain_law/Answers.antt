use Rattle.row_laws.proofs.PlainLemmas.{plain_law}
use Rattle.row_laws.proofs.plain_law.Goals as goal

pub returns : goal.returns
returns c = plain_law
