use Rattle.generalise_steps.proofs.RefusalLemmas.{one_refusal}
use Rattle.generalise_steps.proofs.laws.one_refusal_law.Goals as goal

pub returns : goal.returns
returns c = one_refusal
