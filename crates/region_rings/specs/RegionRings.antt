-- The rings of a region.
use Rattle.std.specs.Prelude.{◌≡◌, ℕ, ◌+◌, ◌<◌, ◌%◌, List, length, map, flat_map, All, Contains, slice_index_or}
use Rattle.plane_edge.specs.Rings.{ends_of, steps_of_ring, times, IsRing}
use Rattle.plane_edge.specs.declared.edge.Edge.{Edge}
use Rattle.plane_edge.specs.declared.point.Point.{Point}
use Rattle.edge_sides.specs.Sides.{start_of, finish_of}

-- each list is a ring, and together they step along each of the edges exactly once, and along no other edge
pub record AreRingsOf (edges : List Edge) (rings : List (List Point)) : Type 0 where
  pub each : All IsRing rings
  pub exact : (s : Point × Point) → times s (flat_map steps_of_ring rings) ≡ times s (map ends_of edges)

-- one of the edges goes from the one point to the other, with the region on its left
abbrev pub IsLeftStep : List Edge → Point → Point → Type 0
IsLeftStep edges p q = (e : Edge) × (Contains edges e × ((start_of edges e ≡ p) × (finish_of edges e ≡ q)))

-- so goes one from each point of the ring to the next, the first point following the last
abbrev pub IsLeftRing : List Edge → List Point → Type 0
IsLeftRing edges ring = (k : ℕ) (d : Point) → k < length ring → IsLeftStep edges (slice_index_or ring k d) (slice_index_or ring ((k + 1) % length ring) d)
