use Rattle.check_steps.proofs.CaseLemmas.{valid_verdict}
use Rattle.check_steps.proofs.laws.valid_verdict_law.Goals as goal

pub returns : goal.returns
returns c = valid_verdict
