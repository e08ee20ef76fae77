-- How a walk along edges goes on.
use Rattle.std.specs.Prelude.{◌≡◌, ℕ, ◌+◌, ◌%◌, Bool, true, false, if◌then◌else◌, ◌&&◌, nat_lt, List, [], ◌∷◌, ◌++◌, map, flat_map, length, count_by, ℤ, take, drop, All, slice_set, slice_index, slice_index_or}
use Rattle.plane_edge.specs.Edges.{is_same_point}
use Rattle.plane_edge.specs.Line.{is_end_of}
use Rattle.plane_edge.specs.Rings.{ends_of, steps_of_ring, IsRing, times}
use Rattle.plane_edge.specs.declared.edge.Edge.{Edge}
use Rattle.plane_edge.specs.declared.point.Point.{Point}
use Rattle.region_rings.specs.declared.spoke.Spoke.{Spoke}
use Rattle.region_rings.specs.declared.way.Way.{Way}
use Rattle.region_rings.specs.Spokes.{IsEndAt}
use Rattle.region_rings.specs.Ways.{way_at, is_taken_before}

-- which edges are walked, the path that is left once rings are cut off, where the path came to which point, and the rings
pub record Walk : Type 0 where
  pub walked : List Bool
  pub path : List Point
  pub places : List ℕ
  pub rings : List (List Point)

-- the edge of that number is walked
abbrev pub along : ℕ → Walk → Walk
along edge w = record w { walked = slice_set w.walked edge true }

-- the path begins anew, at the point of that number
abbrev pub beginning : Point → ℕ → Walk → Walk
beginning p number w = record w { path = p ∷ []; places = slice_set w.places number 0 }

-- the path goes on to the point of that number
abbrev pub onto : Point → ℕ → Walk → Walk
onto p number w = record w { path = w.path ++ p ∷ []; places = slice_set w.places number (length w.path) }

-- the path since that place is cut off as a ring
abbrev pub cut_at : ℕ → Walk → Walk
cut_at place w = record w { path = take (place + 1) w.path; rings = w.rings ++ drop place w.path ∷ [] }

-- the point of that number is on the path, where it was noted
abbrev pub is_visited : Point → ℕ → Walk → Bool
is_visited p number w =
    nat_lt (slice_index w.places number) (length w.path) && is_same_point (slice_index_or w.path (slice_index w.places number) p) p

-- where the path has been at the point a ring is cut off, else the path goes on to it
abbrev pub reaching : Point → ℕ → Walk → Walk
reaching p number w = (if is_visited p number w then cut_at (slice_index w.places number) w else onto p number w)

-- the edges that are not walked
abbrev pub edges_left : List Edge → List Bool → List Edge
edges_left [] marks = []
edges_left (e ∷ es) [] = e ∷ edges_left es []
edges_left (e ∷ es) (true ∷ marks) = edges_left es marks
edges_left (e ∷ es) (false ∷ marks) = e ∷ edges_left es marks

-- the edge of that number ends at the point and is not walked
pub record IsOpenAt (edges : List Edge) (w : Walk) (i : ℕ) (p : Point) : Type 0 where
  pub end : IsEndAt edges i p
  pub left : (d : Bool) → slice_index_or w.walked i d ≡ false

-- of the edges at the point that are not walked, none is taken before that one
abbrev pub IsTakenFirst : List Edge → List Bool → Walk → Point → ℤ × ℤ → ℕ → Type 0
IsTakenFirst edges leftward w p back i =
    (k : ℕ) (d : Way) → IsOpenAt edges w k p → is_taken_before p back (way_at edges leftward k d) (way_at edges leftward i d) ≡ false

-- no such edge is left at the point
abbrev pub IsNoneOpenAt : List Edge → Walk → Point → Type 0
IsNoneOpenAt edges w p = (i : ℕ) (d : Bool) → IsEndAt edges i p → slice_index_or w.walked i d ≡ true

-- between two walks: each edge is a step of a ring or not walked, and only one of these
pub record IsAtRest (edges : List Edge) (spokes : List Spoke) (w : Walk) : Type 0 where
  pub marks : length w.walked ≡ length edges
  pub room : length w.places ≡ length spokes
  pub rings : All IsRing w.rings
  pub tally : (s : Point × Point) → times s (flat_map steps_of_ring w.rings) + times s (map ends_of (edges_left edges w.walked)) ≡ times s (map ends_of edges)
  pub even : (p : Point) → count_by (λ e. is_end_of e p) (edges_left edges w.walked) % 2 ≡ 0
