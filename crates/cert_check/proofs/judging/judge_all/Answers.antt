use Rattle.std.specs.Option.{option_copied}
use Rattle.cert_check.proofs.VerdictLemmas.{parts_valid}
use Rattle.cert_check.proofs.judging.judge_all.Goals as goal

pub returns-clause-ok : goal.returns-clause-ok
returns-clause-ok c =
    parts_valid c.args.checked.now c.args.problem.now c.args.names.now (option_copied c.args.drawn) c.args.certificate.now c.requires.spelling c.requires.drawn (c.in_ok-judge_areas.ensures.ok, (c.in_ok-judge_drawn.ensures.ok, c.in_ok-judge_proof.ensures.ok))
