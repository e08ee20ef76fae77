use Rattle.std.proofs.Common.{inr}
use Rattle.std.specs.Option.{option_copied}
use Rattle.cert_check.proofs.VerdictLemmas.{verdict_valid}
use Rattle.cert_check.proofs.judging.judge.Goals as goal

pub returns-in-Err-Flaw-clause-valid : goal.returns-in-Err-Flaw-clause-valid
returns-in-Err-Flaw-clause-valid g c =
    let flaw = rw c.in-Err-Flaw.field-0-is at c.in-Err-Flaw.ensures.flaw in
    verdict_valid c.args.checked.now c.args.problem.now c.args.names.now (option_copied c.args.drawn) c.args.certificate.now c.requires.spelling c.requires.drawn c.in-Err-Flaw.flaw (inr flaw)
