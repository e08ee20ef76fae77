use Rattle.check_steps.proofs.CaseLemmas.{one_verdict}
use Rattle.check_steps.proofs.laws.one_verdict_law.Goals as goal

pub returns : goal.returns
returns c = one_verdict
