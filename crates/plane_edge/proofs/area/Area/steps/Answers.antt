use Rattle.std.proofs.Common.{subst}
use Rattle.plane_edge.specs.Edges.{HaveEvenEnds}
use Rattle.plane_edge.specs.Rings.{Area}
use Rattle.plane_edge.proofs.area.Area.steps.Goals as goal

pub returns-clause-even : goal.returns-clause-even
returns-clause-even c = subst (λ (o : Area). HaveEvenEnds o.steps) c.self.view_is c.self.invariant
