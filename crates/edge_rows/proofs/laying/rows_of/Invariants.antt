use Rattle.std.proofs.Common.{◌≡◌, ◌++◌, take, flat_map}
use Rattle.edge_rows.specs.Banks.{pieces_of_row}
use Rattle.edge_rows.proofs.laying.rows_of.Given as goal

abbrev pub invariant-loop-piece : goal.invariant-loop-piece
invariant-loop-piece l = flat_map pieces_of_row l.rows.items ++ l.row.pieces.items ≡ l.initial.row.pieces.items ++ take l.piece-index l.rest
