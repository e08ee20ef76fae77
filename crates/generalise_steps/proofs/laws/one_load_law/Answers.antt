use Rattle.generalise_steps.proofs.LoadLemmas.{one_load}
use Rattle.generalise_steps.proofs.laws.one_load_law.Goals as goal

pub returns : goal.returns
returns c = one_load
