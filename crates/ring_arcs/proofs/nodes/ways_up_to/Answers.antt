use Rattle.std.proofs.Common.{rules, not}
use Rattle.std.proofs.lemmas.List.Sorted.{IsPartitionPoint-from_clause}
use Rattle.plane_edge.specs.Order.{is_below}
use Rattle.ring_arcs.proofs.NodeLemmas.{parted_count, parted_up_to}
use Rattle.ring_arcs.proofs.nodes.ways_up_to.Goals as goal

pub returns : goal.returns
returns c =
    let p = c.args.point.now in
    let parted = parted_up_to c.args.ways.now p c.requires in
    parted_count (λ w. not (is_below p w.0)) c.args.ways.now c.partition_point.result c.partition_point.ensures.bound
    (IsPartitionPoint-from_clause (λ w. not (is_below p w.0)) _ _ c.partition_point.ensures.partitioned parted (λ a r q k. search rules))
