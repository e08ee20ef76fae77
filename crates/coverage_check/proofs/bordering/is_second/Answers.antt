use Rattle.coverage_check.proofs.BorderLemmas.{second_told}
use Rattle.coverage_check.proofs.bordering.is_second.Goals as goal

pub returns-then-at-gt0 : goal.returns-then-at-gt0
returns-then-at-gt0 c = second_told c.args.uses.now c.args.at c.args.edge.now c.area_at.result c.is_some.result c.if-at-gt0.true c.area_at.ensures c.is_some.ensures
