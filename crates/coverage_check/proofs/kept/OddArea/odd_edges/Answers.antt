use Rattle.std.proofs.Common.{subst}
use Rattle.plane_edge.specs.Edges.{HaveEvenEnds}
use Rattle.coverage_check.specs.Kept.{OddArea}
use Rattle.coverage_check.proofs.kept.OddArea.odd_edges.Goals as goal

pub returns-clause-even : goal.returns-clause-even
returns-clause-even c = subst (λ (o : OddArea). HaveEvenEnds o.odd_edges) c.self.view_is c.self.invariant.1
