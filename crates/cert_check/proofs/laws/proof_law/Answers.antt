use Rattle.cert_check.proofs.VerdictLemmas.{proof_law}
use Rattle.cert_check.proofs.laws.proof_law.Goals as goal

pub returns : goal.returns
returns c = proof_law
