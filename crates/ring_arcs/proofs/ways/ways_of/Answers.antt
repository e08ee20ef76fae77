use Rattle.std.proofs.Common.{sym, ◌∙◌, ap, subst, map, List}
use Rattle.plane_edge.specs.declared.edge.Edge.{Edge}
use Rattle.plane_edge.specs.declared.point.Point.{Point}
use Rattle.plane_edge.specs.Rings.{ends_of}
use Rattle.agg_base.specs.Lists.{lists_of}
use Rattle.ring_arcs.specs.Rings.{steps_of_rings}
use Rattle.ring_arcs.specs.Ways.{AreWaysOf}
use Rattle.ring_arcs.proofs.WayLemmas.{ways_of_rings, same_ways}
use Rattle.ring_arcs.proofs.ways.ways_of.Goals as goal

pub returns-clause-exact : goal.returns-clause-exact
returns-clause-exact c =
    let steps : List (Point × Point) = steps_of_rings (lists_of c.args.rings.now) in
    let made = ap (λ (es : List Edge). map ends_of es) c.deref.ensures.value ∙ c.in_ok-steps.ensures.value in
    let before = subst (AreWaysOf steps) (sym c.in_ok-ways.ensures) (ways_of_rings c.deref.result.now c.args.rings.now made) in
    same_ways steps c.in_ok-ways.ways.items c.sort_distinct.new.ways.items c.sort_distinct.ensures.same before
