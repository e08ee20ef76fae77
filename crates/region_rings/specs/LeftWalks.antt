-- Walks that have the region on their left.
use Rattle.std.specs.Prelude.{ℕ, ◌+◌, ◌<◌, List, length, All, slice_index_or}
use Rattle.plane_edge.specs.declared.edge.Edge.{Edge}
use Rattle.plane_edge.specs.declared.point.Point.{Point}
use Rattle.edge_sides.specs.Laws.{AreLeft}
use Rattle.region_rings.specs.RegionRings.{IsLeftStep, IsLeftRing}
use Rattle.region_rings.specs.Walks.{Walk, edges_left}

-- a walk from `start` that stands at `at`: its rings and its path go along edges that have the region on their left, and so can what is left
pub record IsLeftCourse (edges : List Edge) (w : Walk) (start at : Point) : Type 0 where
  pub path : (k : ℕ) (d : Point) → k + 1 < length w.path → IsLeftStep edges (slice_index_or w.path k d) (slice_index_or w.path (k + 1) d)
  pub rings : All (IsLeftRing edges) w.rings
  pub left : AreLeft edges start at (edges_left edges w.walked)

-- between two walks
pub record IsLeftAtRest (edges : List Edge) (w : Walk) : Type 0 where
  pub rings : All (IsLeftRing edges) w.rings
  pub left : (p : Point) → AreLeft edges p p (edges_left edges w.walked)
