use Rattle.std.specs.Option.{option_copied}
use Rattle.check_steps.specs.Judgements.{case_of}
use Rattle.check_steps.proofs.CaseLemmas.{valid_holds}
use Rattle.check_steps.proofs.judging.judge_loaded.Goals as goal

pub returns-clause-holds : goal.returns-clause-holds
returns-clause-holds g c =
    let valid = rw c.names-names.ensures.names at c.in_ok-verdict.ensures.valid in
    λ e. valid_holds (case_of c.args.loaded.now c.args.certificate.now (option_copied c.args.drawn)) c.areas.ensures.rules (valid.0 e)

pub returns-clause-verdict : goal.returns-clause-verdict
returns-clause-verdict g c = rw c.names-names.ensures.names at c.in_ok-verdict.ensures.verdict
