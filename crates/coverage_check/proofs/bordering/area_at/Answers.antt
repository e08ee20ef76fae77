use Rattle.std.proofs.Common.{sym, ◌∙◌}
use Rattle.coverage_check.proofs.BorderLemmas.{area_told}
use Rattle.coverage_check.proofs.bordering.area_at.Goals as goal

pub returns-then-eq : goal.returns-then-eq
returns-then-eq c = area_told c.args.uses.now c.args.at c.args.edge.now c.index-uses-at.result c.index-uses-at-then-eq.result c.if-at-uses.true (sym c.eq.ensures ∙ c.if-eq.true)
