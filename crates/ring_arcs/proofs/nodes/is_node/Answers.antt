use Rattle.std.proofs.Common.{◌≡◌, ◌-◌, ap, arith, not, eqb, count_by}
use Rattle.plane_edge.specs.Edges.{is_same_point}
use Rattle.ring_arcs.proofs.NodeLemmas.{leaving}
use Rattle.ring_arcs.proofs.nodes.is_node.Goals as goal

pub overflow_sub-result : goal.overflow_sub-result
overflow_sub-result c = omega (arith, leaving c.args.point.now c.args.ways.now)

pub returns : goal.returns
returns c =
    let same : c.ways_up_to.result - c.ways_before.result ≡ count_by (λ w. is_same_point w.0 c.args.point.now) c.args.ways.now = omega (arith, leaving c.args.point.now c.args.ways.now) in
    ap (λ n. not (eqb n 2)) same
