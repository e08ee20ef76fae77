-- Edges cut into pieces.
use Rattle.std.specs.Prelude.{◌≡◌, ◌+◌, if◌then◌else◌, List, ℤ, pos, ◌<ℤ◌}
use Rattle.plane_edge.specs.declared.edge.Edge.{Edge}
use Rattle.plane_edge.specs.declared.spot.Spot.{Spot}
use Rattle.edge_rows.specs.declared.piece.Piece.{Piece}
use Rattle.edge_rows.specs.Beside.{crossed}
use Rattle.edge_rows.specs.Pieces.{is_cut, met}

-- the new pieces are the old ones and those of the edge between the two heights
abbrev pub IsCut : Edge → ℤ → ℤ → List Piece → List Piece → Type 0
IsCut e low high old new = (s : Spot) → pos 0 <ℤ s.m → met new s ≡ met old s + (if is_cut low high e s then 1 else 0)

-- the pieces are those of the edges: each spot meets as many of the pieces as it crosses edges
abbrev pub ArePiecesOf : List Edge → List Piece → Type 0
ArePiecesOf es ps = (s : Spot) → pos 0 <ℤ s.m → met ps s ≡ crossed es s
