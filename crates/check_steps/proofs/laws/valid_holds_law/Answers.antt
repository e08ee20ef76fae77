use Rattle.check_steps.proofs.CaseLemmas.{valid_holds}
use Rattle.check_steps.proofs.laws.valid_holds_law.Goals as goal

pub returns : goal.returns
returns c = valid_holds
