use Rattle.std.proofs.Common.{◌≡◌, sym, subst, true, false, rules, List}
use Rattle.std.specs.List.Sorted.{IsPartitionPoint, IsPartitionedBy}
use Rattle.region_rings.specs.declared.exit.Exit.{Exit}
use Rattle.std.proofs.lemmas.List.Sorted.{IsPartitionPoint-from_clause}
use Rattle.plane_edge.specs.Order.{is_below}
use Rattle.region_rings.specs.Ways.{tail_of}
use Rattle.region_rings.proofs.ExitLemmas.{parted_below}
use Rattle.region_rings.proofs.border.Border.first_exit.Goals as goal

pub returns-clause-split : goal.returns-clause-split
returns-clause-split c =
    let b = c.args.self.now in
    let p = c.args.at.now in
    let xs = c.deref.result.now in
    let parted = subst (λ (ys : List Exit). IsPartitionedBy (λ x. is_below (tail_of x.way) p) ys) (sym c.deref.ensures.value) (parted_below b.edges.now b.leftward.items b.exits.items c.requires.exits p) in
    let point = IsPartitionPoint-from_clause (λ x. is_below (tail_of x.way) p) xs c.partition_point.result c.partition_point.ensures.partitioned parted (λ a r f h. search rules) in
    subst (λ (ys : List Exit). IsPartitionPoint (λ x. is_below (tail_of x.way) p ≡ true) (λ x. is_below (tail_of x.way) p ≡ false) ys c.partition_point.result) c.deref.ensures.value point
