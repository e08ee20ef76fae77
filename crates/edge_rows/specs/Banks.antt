-- Rows of pieces from below upwards.
use Rattle.std.specs.Prelude.{Bool, List, ◌*ℤ◌, ◌≤ℤ◌, int_le}
use Rattle.plane_edge.specs.declared.spot.Spot.{Spot}
use Rattle.edge_rows.specs.declared.piece.Piece.{Piece}
use Rattle.edge_rows.specs.declared.row.Row.{Row}

-- the row s does not begin below the row r, and its top is not below that of r
pub record IsBefore (r s : Row) : Type 0 where
  pub low : r.last.low ≤ℤ s.last.low
  pub top : r.top ≤ℤ s.top

-- the pieces of a row
abbrev pub pieces_of_row : Row → List Piece
pieces_of_row r = r.pieces.items

-- the top of the row is at the spot's height or below
abbrev pub is_under : Row → Spot → Bool
is_under r s = int_le (r.top *ℤ s.m) s.y

-- the row begins at the spot's height or below
abbrev pub is_begun : Row → Spot → Bool
is_begun r s = int_le (r.last.low *ℤ s.m) s.y
