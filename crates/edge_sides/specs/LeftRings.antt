-- Rings that have a region on their left.
use Rattle.std.specs.Prelude.{◌≡◌, ℕ, ◌+◌, ◌<◌, ◌%◌, List, length, slice_index_or}
use Rattle.plane_edge.specs.declared.edge.Edge.{Edge}
use Rattle.plane_edge.specs.declared.point.Point.{Point}
use Rattle.plane_edge.specs.declared.spot.Spot.{Spot}
use Rattle.edge_sides.specs.Sides.{IsOnLeft, IsOnRight}

-- the step goes up an edge that has the region on its left, or down one that has it on its right
pub data HasOnLeft (IsHeld : Spot → Type 0) (from to : Point) : Type 0 where
  up : (e : Edge) → e.low ≡ from → e.high ≡ to → IsOnLeft IsHeld e → HasOnLeft IsHeld from to
  down : (e : Edge) → e.high ≡ from → e.low ≡ to → IsOnRight IsHeld e → HasOnLeft IsHeld from to

-- each step of the ring does, from each point to the next, the first point following the last
abbrev pub IsLeftRound : (Spot → Type 0) → List Point → Type 0
IsLeftRound IsHeld ring = (k : ℕ) (d : Point) → k < length ring → HasOnLeft IsHeld (slice_index_or ring k d) (slice_index_or ring ((k + 1) % length ring) d)

-- each step of the path does, from each point to the next
abbrev pub IsLeftPath : (Spot → Type 0) → List Point → Type 0
IsLeftPath IsHeld path = (k : ℕ) (d : Point) → k + 1 < length path → HasOnLeft IsHeld (slice_index_or path k d) (slice_index_or path (k + 1) d)
