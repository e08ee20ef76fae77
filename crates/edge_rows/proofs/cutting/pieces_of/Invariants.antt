use Rattle.std.proofs.Common.{take}
use Rattle.edge_rows.specs.Cutting.{ArePiecesOf}
use Rattle.edge_rows.proofs.cutting.pieces_of.Given as goal

abbrev pub invariant-loop-edge : goal.invariant-loop-edge
invariant-loop-edge l = ArePiecesOf (take l.edge-index l.edges) l.pieces.items
