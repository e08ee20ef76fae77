use Rattle.std.proofs.Common.{sym, subst, List}
use Rattle.plane_edge.specs.declared.edge.Edge.{Edge}
use Rattle.plane_edge.specs.Edges.{HaveEvenEnds}
use Rattle.region_rings.proofs.tests.draws.Goals as goal

pub rings_of-requires-clause-even : goal.rings_of-requires-clause-even
rings_of-requires-clause-even g c = subst (λ (es : List Edge). HaveEvenEnds es) (sym c.deref.ensures.value) c.in_ok-edges.ensures.even
