use Rattle.std.proofs.Common.{sym, ◌∙◌, subst, List}
use Rattle.plane_edge.specs.declared.edge.Edge.{Edge}
use Rattle.plane_edge.specs.Edges.{HaveEvenEnds}
use Rattle.plane_edge.proofs.odd_edges.odd.Goals as goal

pub returns-clause-even : goal.returns-clause-even
returns-clause-even c =
    c.in_ok-odd.ensures.even (subst (λ (es : List Edge). HaveEvenEnds es) (sym (c.in_ok-steps.ensures.items ∙ c.steps.ensures.value)) c.steps.ensures.even)
