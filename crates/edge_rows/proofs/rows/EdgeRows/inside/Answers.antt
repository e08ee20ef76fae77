use Rattle.std.proofs.Common.{◌∙◌, ap, arith, List, flat_map, pos, ◌<ℤ◌}
use Rattle.whole_ring.proofs.Signs.{lin}
use Rattle.plane_edge.specs.declared.edge.Edge.{Edge}
use Rattle.edge_rows.specs.declared.bank.Bank.{Bank}
use Rattle.edge_rows.specs.Beside.{crossed}
use Rattle.edge_rows.specs.Pieces.{met}
use Rattle.edge_rows.specs.Whole.{pieces_of_bank}
use Rattle.edge_rows.proofs.CrossLemmas.{inside_is}
use Rattle.edge_rows.proofs.rows.EdgeRows.inside.Goals as goal

pub returns : goal.returns
returns c =
    let s = c.args.spot.now in
    let real : pos 0 <ℤ s.m = omega (arith, lin, c.requires.bounded.real) in
    inside_is c.is_inside.result (met (flat_map pieces_of_bank c.deref.result.now) s) c.args.self.now s c.is_inside.ensures
    (ap (λ (bs : List Bank). met (flat_map pieces_of_bank bs) s) c.deref.ensures.value ∙ c.self.invariant s real ∙ ap (λ (es : List Edge). crossed es s) c.self.view_is)
