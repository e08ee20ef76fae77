-- Edges by their ends.
use Rattle.std.specs.Prelude.{◌≡◌, ◌≢◌, ◌↔◌, ℕ, ◌+◌, ◌<◌, true, false, List, [], ◌∷◌, length, slice_index_or, AllPairs, Contains}
use Rattle.plane_edge.specs.Line.{is_end_of}
use Rattle.plane_edge.specs.Order.{is_below}
use Rattle.plane_edge.specs.declared.edge.Edge.{Edge}
use Rattle.plane_edge.specs.declared.point.Point.{Point}
use Rattle.region_rings.specs.declared.spoke.Spoke.{Spoke}

-- the edge of that number, at one of its ends
abbrev pub spoke : Point → ℕ → Spoke
spoke p i = record { at = p; edge = i }

-- the point is an end of the edge of that number
pub record IsEndAt (edges : List Edge) (i : ℕ) (p : Point) : Type 0 where
  pub within : i < length edges
  pub end : (d : Edge) → is_end_of (slice_index_or edges i d) p ≡ true

-- both spokes of each edge, edge by edge, the first of them having the number i
abbrev pub spokes_from : ℕ → List Edge → List Spoke
spokes_from i [] = []
spokes_from i (e ∷ es) = spoke e.low i ∷ spoke e.high i ∷ spokes_from (i + 1) es

-- none is at a lesser point than one before it
abbrev pub AreInOrder : List Spoke → Type 0
AreInOrder spokes = AllPairs (λ s t. is_below t.at s.at ≡ false) spokes

-- the spokes are those of the edges, in the order of their points
pub record AreSpokesOf (edges : List Edge) (spokes : List Spoke) : Type 0 where
  pub ordered : AreInOrder spokes
  pub exact : (i : ℕ) (p : Point) → Contains spokes (spoke p i) ↔ IsEndAt edges i p

-- the first spoke at the point has that number
pub record IsFirstAt (spokes : List Spoke) (p : Point) (n : ℕ) : Type 0 where
  pub within : n < length spokes
  pub here : (d : Spoke) → (slice_index_or spokes n d).at ≡ p
  pub first : (k : ℕ) (d : Spoke) → k < n → (slice_index_or spokes k d).at ≢ p
