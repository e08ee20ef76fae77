use Rattle.std.proofs.Common.{rules}
use Rattle.std.proofs.lemmas.List.Sorted.{IsPartitionPoint-from_clause}
use Rattle.plane_edge.specs.Order.{is_below}
use Rattle.plane_edge.proofs.OrderLemmas.{below_is_less}
use Rattle.region_rings.proofs.ChoiceLemmas.{parted, first_found}
use Rattle.region_rings.proofs.border.first_at.Goals as goal

pub returns : goal.returns
returns c =
    let ss = c.args.spokes.now in
    let p = c.args.point.now in
    first_found ss p c.partition_point.result c.requires.ordered c.requires.here
    (IsPartitionPoint-from_clause (λ s. is_below s.at p) ss c.partition_point.result c.partition_point.ensures.partitioned (parted ss p c.requires.ordered) (λ a r f h. search (rules, below_is_less)))
