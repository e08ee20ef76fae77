use Rattle.cert_check.proofs.VerdictLemmas.{verdict_law}
use Rattle.cert_check.proofs.laws.verdict_law.Goals as goal

pub returns : goal.returns
returns c = verdict_law
