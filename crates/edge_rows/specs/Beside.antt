-- Pieces between the same two heights, and lists of edges that every spot crosses alike.
use Rattle.std.specs.Prelude.{◌≡◌, ℕ, Bool, ◌&&◌, not, List, All, AllPairs, count_by, ℤ, pos, ◌≤ℤ◌, int_lt}
use Rattle.std.specs.Ordering.{int_eq}
use Rattle.plane_edge.specs.declared.edge.Edge.{Edge}
use Rattle.plane_edge.specs.declared.spot.Spot.{Spot}
use Rattle.plane_edge.specs.Plane.{is_crossed}
use Rattle.plane_strip.specs.Strip.{lead}
use Rattle.edge_rows.specs.declared.piece.Piece.{Piece}

-- q is between the heights of p, and at neither of them further left
pub record IsBeside (p q : Piece) : Type 0 where
  pub low : p.low ≡ q.low
  pub high : p.high ≡ q.high
  pub right_below : lead p.edge q.edge p.low (pos 1) ≤ℤ pos 0
  pub right_above : lead p.edge q.edge p.high (pos 1) ≤ℤ pos 0

-- `IsBeside` as a test
abbrev pub is_beside : Piece → Piece → Bool
is_beside p q =
    (int_eq p.low q.low && int_eq p.high q.high)
    && (not (int_lt (pos 0) (lead p.edge q.edge p.low (pos 1))) && not (int_lt (pos 0) (lead p.edge q.edge p.high (pos 1))))

-- pieces between two heights, from left to right, one that is not left of any, and a height that is as great as theirs
pub record IsRow (pieces : List Piece) (last : Piece) (top : ℤ) : Type 0 where
  pub rising : AllPairs IsBeside pieces
  pub up_to : All (λ p. IsBeside p last) pieces
  pub high : last.high ≤ℤ top

-- how many of the edges the ray from the spot to the right crosses
abbrev pub crossed : List Edge → Spot → ℕ
crossed es s = count_by (λ e. is_crossed e s) es

-- each spot crosses as many of the ones as of the others
abbrev pub AreCrossedAlike : List Edge → List Edge → Type 0
AreCrossedAlike es fs = (s : Spot) → crossed es s ≡ crossed fs s
