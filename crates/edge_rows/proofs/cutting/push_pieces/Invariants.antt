use Rattle.std.proofs.Common.{◌≤ℤ◌}
use Rattle.edge_rows.specs.Cutting.{IsCut}
use Rattle.edge_rows.proofs.cutting.push_pieces.Given as goal

abbrev pub invariant-loop-turn : goal.invariant-loop-turn
invariant-loop-turn l = (l.edge.low.y ≤ℤ l.left) × (l.left ≤ℤ l.edge.high.y) × IsCut l.edge l.edge.low.y l.left l.initial.pieces.items l.pieces.items
