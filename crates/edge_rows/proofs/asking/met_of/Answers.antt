use Rattle.std.proofs.Common.{◌≡◌, ◌∙◌, ◌-◌, ap, arith, rules, sym, not, List, subst, length, pos, ◌<ℤ◌}
use Rattle.std.specs.List.Sorted.{IsPartitionedBy}
use Rattle.std.proofs.lemmas.List.Sorted.{IsPartitionPoint-from_clause}
use Rattle.whole_ring.proofs.Signs.{lin}
use Rattle.edge_rows.specs.declared.piece.Piece.{Piece}
use Rattle.edge_rows.specs.Pieces.{is_met, met}
use Rattle.edge_rows.proofs.Places.{count_from}
use Rattle.edge_rows.proofs.RowLemmas.{row_parts}
use Rattle.edge_rows.proofs.asking.met_of.Goals as goal

pub returns : goal.returns
returns c =
    let row = c.args.row.now in
    let s = c.args.spot.now in
    let ps = c.deref.result.now in
    let real : pos 0 <ℤ s.m = omega (arith, lin, c.requires.real) in
    let parted : IsPartitionedBy (λ p. not (is_met p s)) ps = subst (λ (qs : List Piece). IsPartitionedBy (λ p. not (is_met p s)) qs) (sym c.deref.ensures.value) (row_parts row.pieces.items row.last row.top s real row.is_row) in
    let point = IsPartitionPoint-from_clause (λ p. not (is_met p s)) ps c.partition_point.result c.partition_point.ensures.partitioned parted (λ a r q k. search rules) in
    let count = count_from (λ p. is_met p s) ps c.partition_point.result c.partition_point.ensures.bound point.0 point.1 in
    (let n : c.len.result ≡ length ps = c.len.ensures ∙ sym c.deref.ensures.len in ap (λ m. m - c.partition_point.result) n ∙ sym count ∙ ap (λ (qs : List Piece). met qs s) c.deref.ensures.value)
