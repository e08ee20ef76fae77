use Rattle.std.proofs.Common.{◌≡◌, ◌∙◌, sym, ap, List, flat_map}
use Rattle.plane_edge.specs.declared.edge.Edge.{Edge}
use Rattle.edge_rows.specs.declared.piece.Piece.{Piece}
use Rattle.edge_rows.specs.Beside.{crossed}
use Rattle.edge_rows.specs.Pieces.{met}
use Rattle.edge_rows.specs.Whole.{pieces_of_bank}
use Rattle.edge_rows.proofs.CutLemmas.{permuted}
use Rattle.edge_rows.proofs.rows.EdgeRows.of.Goals as goal

pub invariant_of-result : goal.invariant_of-result
invariant_of-result c = λ s m.
    let laid : flat_map pieces_of_bank c.in_ok-banks.banks.items ≡ c.sort.new.pieces.items = c.in_ok-banks.ensures ∙ c.in_ok-rows_of.ensures ∙ c.deref.ensures.value in
    ap (λ (ps : List Piece). met ps s) laid ∙ permuted c.in_ok-pieces.pieces.items c.sort.new.pieces.items c.sort.ensures s
    ∙ c.in_ok-pieces.ensures s m ∙ ap (λ (es : List Edge). crossed es s) (sym c.in_ok-edges.ensures.items)

pub returns : goal.returns
returns c = λ s. ap (λ (es : List Edge). crossed es s) c.in_ok-edges.ensures.items
