use Rattle.std.proofs.Common.{◌≡◌, ◌≤ℤ◌, arith, subst, sym, ℤ, w32, to_z, of_z}
use Rattle.whole_ring.proofs.Signs.{lin}
use Rattle.plane_edge.specs.Coordinate.{IsCoordinate}
use Rattle.edge_rows.specs.Cutting.{IsCut}
use Rattle.edge_rows.proofs.PieceLemmas.{coordinate_is, coordinate_between}
use Rattle.edge_rows.proofs.CutLemmas.{cut_on, on_ok}
use Rattle.edge_rows.proofs.cutting.push_pieces.Goals as goal

pub loop-turn-preserved : goal.loop-turn-preserved
loop-turn-preserved c =
    let e = c.args.edge.now in
    let l = to_z w32 c.loop-turn.left-bits in
    let x = c.in_ok-left.left in
    let here = c.loop-turn.invariant in
    let up = c.in_ok-left.ensures.up in
    let from : e.low.y ≤ℤ x = omega (arith, lin, here.0, up) in
    let within : IsCoordinate x = coordinate_between e.low.y x e.high.y e.low.y_in_range e.high.y_in_range from c.in_ok-left.ensures.within in
    let same : to_z w32 (of_z w32 x) ≡ x = coordinate_is x within in (
      subst (λ (z : ℤ). e.low.y ≤ℤ z) (sym same) from,
      subst (λ (z : ℤ). z ≤ℤ e.high.y) (sym same) c.in_ok-left.ensures.within,
      subst (λ (z : ℤ). IsCut e e.low.y z c.args.pieces.now.items c.cut_off.new.pieces.items) (sym same)
          (cut_on e e.low.y l x c.args.pieces.now.items c.loop-turn.pieces.items c.cut_off.new.pieces.items here.0 up here.2 c.in_ok-left.ensures.cut),
    )

pub returns : goal.returns
returns c =
    let e = c.args.edge.now in
    let l = to_z w32 c.loop-turn.left-bits in
    let top = to_z w32 (of_z w32 e.high.y) in
    let old = c.args.pieces.now.items in
    let mid = c.loop-turn.pieces.items in
    let new = c.push_piece.new.pieces.items in
    let here = c.loop-turn.invariant in
    let same : top ≡ e.high.y = coordinate_is e.high.y e.high.y_in_range in
    on_ok (IsCut e l top mid new) (IsCut e e.low.y e.high.y old new) c.push_piece.result
    (λ more. cut_on e e.low.y l e.high.y old mid new here.0 here.1 here.2 (subst (λ (z : ℤ). IsCut e l z mid new) same more)) c.push_piece.ensures
