use Rattle.generalise_steps.proofs.RefusalLemmas.{loaded_not_refused}
use Rattle.generalise_steps.proofs.laws.loaded_without_refusal_law.Goals as goal

pub returns : goal.returns
returns c = loaded_not_refused
