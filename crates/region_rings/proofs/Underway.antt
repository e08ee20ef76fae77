-- A walk that has begun.
use Rattle.std.proofs.Common.{◌≡◌, ℕ, ◌+◌, ◌-◌, ◌%◌, ◌<◌, if◌then◌else◌, List, [], ◌∷◌, map, flat_map, length, count_by, All, slice_index, slice_index_or}
use Rattle.plane_edge.specs.Edges.{is_same_point}
use Rattle.plane_edge.specs.Line.{is_end_of}
use Rattle.plane_edge.specs.Rings.{ends_of, path_from, steps_of_ring, IsRing, times, VisitsNoneTwice}
use Rattle.plane_edge.specs.declared.edge.Edge.{Edge}
use Rattle.plane_edge.specs.declared.point.Point.{Point}
use Rattle.region_rings.specs.declared.spoke.Spoke.{Spoke}
use Rattle.region_rings.specs.Walks.{Walk, edges_left}
use Rattle.region_rings.specs.Spokes.{IsFirstAt}

-- the steps from each point of the path to the next
abbrev pub steps_of_path : List Point → List (Point × Point)
steps_of_path [] = []
steps_of_path (p ∷ ps) = path_from p ps

-- 1 where the points are the same, else 0
abbrev pub once : Point → Point → ℕ
once p q = (if is_same_point p q then 1 else 0)

-- a walk from `start` that stands at `at`. Each edge is a step of a ring, a step of the path or not walked, and only one of these; each point is an end of an even number of
-- the edges not walked, where `start` and `at` count one more each
pub record IsUnderway (edges : List Edge) (spokes : List Spoke) (w : Walk) (start at : Point) : Type 0 where
  pub marks : length w.walked ≡ length edges
  pub room : length w.places ≡ length spokes
  pub rings : All IsRing w.rings
  pub tally : (s : Point × Point) → times s (flat_map steps_of_ring w.rings) + (times s (steps_of_path w.path) + times s (map ends_of (edges_left edges w.walked))) ≡ times s (map ends_of edges)
  pub even : (p : Point) → (count_by (λ e. is_end_of e p) (edges_left edges w.walked) + (once start p + once at p)) % 2 ≡ 0
  pub simple : VisitsNoneTwice w.path
  pub begun : 0 < length w.path
  pub from : (d : Point) → slice_index_or w.path 0 d ≡ start
  pub upto : (d : Point) → slice_index_or w.path (length w.path - 1) d ≡ at
  pub placed : (k n : ℕ) (d : Point) → k < length w.path → IsFirstAt spokes (slice_index_or w.path k d) n → slice_index w.places n ≡ k
