use Rattle.coverage_check.specs.Kept.{kept_of, odds_of}
use Rattle.coverage_check.proofs.CheckLemmas.{thrice_due}
use Rattle.coverage_check.proofs.cover.check.Goals as goal

pub returns-clause-thrice : goal.returns-clause-thrice
returns-clause-thrice g c = thrice_due (odds_of (kept_of c.args.coverage.areas.items)) c.check_kept.result c.check_kept.ensures.planar c.check_kept.ensures.fault
