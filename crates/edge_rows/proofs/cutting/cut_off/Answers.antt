use Rattle.std.proofs.Common.{subst, ℤ, w32, to_z, of_z}
use Rattle.std.proofs.lemmas.Int.{to_z-of_z}
use Rattle.edge_rows.specs.Cutting.{IsCut}
use Rattle.edge_rows.proofs.cutting.cut_off.Goals as goal

pub returns-clause-cut : goal.returns-clause-cut
returns-clause-cut c =
    subst (λ (z : ℤ). IsCut c.args.edge.now z (to_z w32 (of_z w32 c.height_within-left.result)) c.args.pieces.now.items c.push_piece.new.pieces.items) (to_z-of_z w32 c.args.low c.ranges.low) c.in_ok-push_piece.ensures
