use Rattle.std.proofs.Common.{List, subst, sym, ℤ}
use Rattle.plane_edge.specs.Coordinate.{IsCoordinate}
use Rattle.edge_rows.specs.declared.piece.Piece.{Piece}
use Rattle.edge_rows.specs.Beside.{IsRow}
use Rattle.edge_rows.proofs.PieceLemmas.{coordinate_is}
use Rattle.edge_rows.proofs.RowLemmas.{row_more}
use Rattle.edge_rows.proofs.laying.longer.Goals as goal

pub invariant_of-result : goal.invariant_of-result
invariant_of-result c =
    let row = c.args.row in
    let same = coordinate_is row.top row.top_in in
    record {
      is_row =
          subst (λ (z : ℤ). IsRow c.push.new.self.items c.args.piece z) (sym same)
          (subst (λ (ps : List Piece). IsRow ps c.args.piece row.top) (sym c.in_ok-push.ensures.items) (row_more row.pieces.items row.last c.args.piece row.top row.is_row c.requires));
      top_in = subst IsCoordinate (sym same) row.top_in;
    }
