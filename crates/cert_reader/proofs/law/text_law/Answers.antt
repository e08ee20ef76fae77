use Rattle.cert_reader.proofs.LawLemmas.{spelled_or_faulty, one_fault}
use Rattle.cert_reader.proofs.SameLemmas.{one_certificate}
use Rattle.cert_reader.proofs.law.text_law.Goals as goal

pub returns-clause-spelled : goal.returns-clause-spelled
returns-clause-spelled c = one_certificate

pub returns-clause-right : goal.returns-clause-right
returns-clause-right c = spelled_or_faulty

pub returns-clause-fault : goal.returns-clause-fault
returns-clause-fault c = one_fault
