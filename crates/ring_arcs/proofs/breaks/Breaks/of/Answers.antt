use Rattle.std.proofs.Common.{sym, subst, List, All, IsSorted}
use Rattle.plane_edge.specs.declared.point.Point.{Point}
use Rattle.ring_arcs.specs.Breaks.{IsBroken}
use Rattle.ring_arcs.specs.Ways.{way_order}
use Rattle.ring_arcs.proofs.NodeLemmas.{way_order_total, sorted_from_strictly}
use Rattle.ring_arcs.proofs.breaks.Breaks.of.Goals as goal

pub loops_of-requires-clause-sorted : goal.loops_of-requires-clause-sorted
loops_of-requires-clause-sorted c =
    subst (IsSorted way_order) (sym c.deref.ensures.value) (sorted_from_strictly way_order way_order_total c.in_ok-ways.ways.items c.in_ok-ways.ensures.rising)

pub invariant_of-result : goal.invariant_of-result
invariant_of-result c = record {
  ways_sorted = sorted_from_strictly way_order way_order_total c.in_ok-ways.ways.items c.in_ok-ways.ensures.rising;
  loops_sorted = c.in_ok-loops.ensures.sorted;
}

pub returns-clause-broken : goal.returns-clause-broken
returns-clause-broken c =
    subst (λ (ways : List (Point × Point)). All (λ ring. IsBroken ways c.in_ok-loops.loops.items ring.items) c.args.rings.now) c.deref.ensures.value c.in_ok-loops.ensures.broken
