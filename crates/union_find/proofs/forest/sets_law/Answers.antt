use Rattle.union_find.proofs.SetLemmas.{sets_law}
use Rattle.union_find.proofs.forest.sets_law.Goals as goal

pub returns : goal.returns
returns c = sets_law
