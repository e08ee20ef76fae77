-- Parts of edges between two heights, and which of them a spot meets.
use Rattle.std.specs.Prelude.{ℕ, ◌%◌, ◌==◌, Bool, ◌&&◌, List, count_by, ℤ, ◌*ℤ◌, int_lt, int_le}
use Rattle.plane_edge.specs.declared.edge.Edge.{Edge}
use Rattle.plane_edge.specs.declared.spot.Spot.{Spot}
use Rattle.plane_edge.specs.Plane.{is_crossed}
use Rattle.edge_rows.specs.declared.piece.Piece.{Piece}

-- the spot is at the first height or above, and below the second
abbrev pub is_between : ℤ → ℤ → Spot → Bool
is_between low high s = int_le (low *ℤ s.m) s.y && int_lt s.y (high *ℤ s.m)

-- it is, and the ray from it to the right crosses the edge
abbrev pub is_cut : ℤ → ℤ → Edge → Spot → Bool
is_cut low high e s = is_between low high s && is_crossed e s

-- the ray from the spot to the right crosses the piece
abbrev pub is_met : Piece → Spot → Bool
is_met p s = is_cut p.low p.high p.edge s

-- how many of the pieces it crosses
abbrev pub met : List Piece → Spot → ℕ
met ps s = count_by (λ p. is_met p s) ps

-- an odd number of the pieces
abbrev pub is_in : List Piece → Spot → Bool
is_in ps s = (met ps s % 2) == 1
