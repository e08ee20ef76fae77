use Rattle.std.proofs.Common.{◌≡◌, sym, subst, true, false, not, rules, List}
use Rattle.std.specs.List.Sorted.{IsPartitionPoint, IsPartitionedBy}
use Rattle.region_rings.specs.declared.exit.Exit.{Exit}
use Rattle.std.proofs.lemmas.List.Sorted.{IsPartitionPoint-from_clause}
use Rattle.region_rings.specs.Exits.{is_past}
use Rattle.region_rings.specs.Turning.{parts_of}
use Rattle.region_rings.proofs.ExitLemmas.{parted_past}
use Rattle.region_rings.proofs.border.Border.first_past.Goals as goal

pub returns-clause-split : goal.returns-clause-split
returns-clause-split c = λ s. (
    let b = c.args.self.now in
    let p = c.args.at.now in
    let u = parts_of c.args.aim.now in
    let xs = c.deref.result.now in
    let parted = subst (λ (ys : List Exit). IsPartitionedBy (λ x. not (is_past p u x.way)) ys) (sym c.deref.ensures.value) (parted_past b.edges.now b.leftward.items b.exits.items c.requires.exits p u s) in
    let point = IsPartitionPoint-from_clause (λ x. not (is_past p u x.way)) xs c.partition_point.result c.partition_point.ensures.partitioned parted (λ a r f h. search rules) in
    subst (λ (ys : List Exit). IsPartitionPoint (λ x. not (is_past p u x.way) ≡ true) (λ x. not (is_past p u x.way) ≡ false) ys c.partition_point.result) c.deref.ensures.value point
    )
