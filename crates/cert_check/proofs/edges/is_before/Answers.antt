use Rattle.std.proofs.Common.{◌≡◌, sym, ◌∙◌, ap, Option, Some, Ordering, int_cmp, is_lt}
use Rattle.std.specs.Ordering.{partial_ordering_then, is_some_and}
use Rattle.std.specs.Cmp.{Some-then}
use Rattle.plane_edge.specs.declared.edge.Edge.{Edge}
use Rattle.plane_edge.specs.declared.point.Point.{Point}
use Rattle.plane_edge.specs.Edges.{is_edge_below}
use Rattle.plane_edge.proofs.OrderLemmas.{point_order, edge_order, edge_below_is_less}
use Rattle.cert_check.proofs.edges.is_before.Goals as goal

-- what `partial_cmp` answers
abbrev partial_point : Point → Point → Option Ordering
partial_point p q = partial_ordering_then (Some (int_cmp p.y q.y)) (Some (int_cmp p.x q.x))

abbrev partial_edge : Edge → Edge → Option Ordering
partial_edge e f = partial_ordering_then (partial_point e.low f.low) (partial_point e.high f.high)

-- it always answers, as `cmp` does
point_some : (p q : Point) → partial_point p q ≡ Some (point_order p q)
point_some p q = Some-then (int_cmp p.y q.y) (int_cmp p.x q.x)

edge_some : (e f : Edge) → partial_edge e f ≡ Some (edge_order e f)
edge_some e f =
    ap (λ (o : Option Ordering). partial_ordering_then o (partial_point e.high f.high)) (point_some e.low f.low)
    ∙ (ap (λ (o : Option Ordering). partial_ordering_then (Some (point_order e.low f.low)) o) (point_some e.high f.high) ∙ Some-then (point_order e.low f.low) (point_order e.high f.high))

less_is_below : (e f : Edge) → is_some_and is_lt (partial_edge e f) ≡ is_edge_below e f
less_is_below e f =
    ap (λ (o : Option Ordering). is_some_and is_lt o) (edge_some e f) ∙ sym (edge_below_is_less e f)

pub returns : goal.returns
returns c = c.lt.ensures ∙ less_is_below c.args.a.now c.args.b.now
