use Rattle.std.proofs.Common.{◌≡◌, ◌∙◌, ap, List, [], ◌∷◌, ◌++◌, subst, sym, ℤ}
use Rattle.plane_edge.specs.Coordinate.{IsCoordinate}
use Rattle.edge_rows.specs.declared.piece.Piece.{Piece}
use Rattle.edge_rows.specs.Beside.{IsRow}
use Rattle.edge_rows.proofs.PieceLemmas.{coordinate_is}
use Rattle.edge_rows.proofs.RowLemmas.{row_one}
use Rattle.edge_rows.proofs.laying.row_of.Goals as goal

pub invariant_of-result : goal.invariant_of-result
invariant_of-result c =
    let p = c.args.piece in
    let same = coordinate_is p.high p.high_in in
    let items : c.push.new.self.items ≡ p ∷ [] = c.in_ok-push.ensures.items ∙ ap (λ (ps : List Piece). ps ++ p ∷ []) c.new-pieces.ensures.items in
    record {
      is_row = subst (λ (z : ℤ). IsRow c.push.new.self.items p z) (sym same) (subst (λ (ps : List Piece). IsRow ps p p.high) (sym items) (row_one p));
      top_in = subst IsCoordinate (sym same) p.high_in;
    }
