use Rattle.check_steps.proofs.ReadLemmas.{certificate_refused}
use Rattle.check_steps.proofs.reading.read_certificate.Goals as goal

pub returns-in-Err-clause-refused : goal.returns-in-Err-clause-refused
returns-in-Err-clause-refused c = certificate_refused c.args.text.now c.in-Err.fault _ _ c.in-Err.ensures.fault c.line_of.ensures.line c.line_of.ensures.real c.of.ensures
