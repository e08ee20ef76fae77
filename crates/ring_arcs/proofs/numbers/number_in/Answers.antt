use Rattle.std.proofs.Common.{sym, ◌∙◌, subst, List, Contains}
use Rattle.plane_edge.specs.declared.point.Point.{Point}
use Rattle.agg_base.specs.Lists.{lists_of}
use Rattle.ring_arcs.proofs.SortLemmas.{found_at, not_lost}
use Rattle.ring_arcs.proofs.numbers.number_in.Goals as goal

pub unreachable-requires : goal.unreachable-requires
unreachable-requires c =
    let stored = subst (λ (arc : List Point). Contains (lists_of c.args.arcs.now) arc) (sym c.arc_of-arc.ensures) c.requires.stored.stored in
    not_lost c.args.arcs.now c.arc_of-arc.result c.in_default.field-0 c.requires.rising stored c.in_default.ensures.position

pub returns-clause-found : goal.returns-clause-found
returns-clause-found c = found_at c.args.arcs.now c.arc_of-arc.result c.in-Ok.number c.in-Ok.ensures.position c.in-Ok.ensures.bound ∙ c.arc_of-arc.ensures
