use Rattle.std.proofs.Common.{sym, subst, List}
use Rattle.plane_edge.specs.declared.edge.Edge.{Edge}
use Rattle.plane_edge.specs.Edges.{AreOddOf}
use Rattle.cert_check.proofs.EdgeLemmas.{odd_difference}
use Rattle.cert_check.proofs.edges.differing_edge.Goals as goal

pub returns-clause-none : goal.returns-clause-none
returns-clause-none c =
    let steps = c.args.area.now.steps in
    let odd = subst (λ (es : List Edge). AreOddOf steps es) (sym c.deref.ensures.value) c.in_ok-edges.ensures.odd in
    (odd_difference steps c.deref.result.now c.args.due.now c.first_difference.result odd c.requires c.first_difference.ensures).0

pub returns-clause-some : goal.returns-clause-some
returns-clause-some c =
    let steps = c.args.area.now.steps in
    let odd = subst (λ (es : List Edge). AreOddOf steps es) (sym c.deref.ensures.value) c.in_ok-edges.ensures.odd in
    (odd_difference steps c.deref.result.now c.args.due.now c.first_difference.result odd c.requires c.first_difference.ensures).1
