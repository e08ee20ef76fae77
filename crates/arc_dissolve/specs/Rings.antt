-- Rings that are told by indexes of arcs.
use Rattle.std.specs.Prelude.{◌<◌, ℤ, pos, ◌+ℤ◌, ◌-ℤ◌, ◌*ℤ◌, Some, List, [], ◌∷◌, ◌++◌, length, map, flat_map, All}
use Rattle.plane_edge.specs.Rings.{steps_of_ring, IsRing}
use Rattle.plane_edge.specs.declared.point.Point.{Point}
use Rattle.plane_edge.specs.declared.edge.Edge.{Edge}
use Rattle.plane_strip.specs.Strip.{IsPlanar}
use Rattle.region_rings.specs.RegionRings.{IsLeftRing}
use Rattle.ring_arcs.specs.Numbers.{IsLeastAt}
use Rattle.ring_arcs.specs.RingArcs.{arc_at, without_last, IsIndex}
use Rattle.plane_edge.specs.Paths.{AreJoined}

-- where the edges meet in common ends only, each ring goes along them with what is inside them on its left
abbrev pub AreLeftRings : List Edge → List (List Point) → Type 0
AreLeftRings edges rings = IsPlanar edges → All (IsLeftRing edges) rings

-- the points of the ring: arc after arc, each without its last point
abbrev pub points_round : List (List Point) → List ℤ → List Point
points_round arcs ring = flat_map without_last (map (arc_at arcs) ring)

-- each arc begins where the one before ends, and the first where the last ends
abbrev pub IsClosedWalk : List (List Point) → List ℤ → Type 0
IsClosedWalk arcs ring = (p : Point) × AreJoined (Some p) (map (arc_at arcs) ring) (Some p)

-- one index or more, each of an arc; the arcs go round from the one of least number on, and no point is visited twice
pub record IsDrawnRing (arcs : List (List Point)) (ring : List ℤ) : Type 0 where
  pub some : 0 < length ring
  pub in_range : All (IsIndex arcs) ring
  pub closed : IsClosedWalk arcs ring
  pub simple : IsRing (points_round arcs ring)
  pub first : IsLeastAt ring (length ring) 0

-- the steps of the rings, ring by ring
abbrev pub steps_round : List (List Point) → List (List ℤ) → List (Point × Point)
steps_round arcs rings = flat_map (λ ring. steps_of_ring (points_round arcs ring)) rings

-- twice the area of the triangle from (0, 0) to both points and back, above 0 where it goes to the left
abbrev pub cross : Point → Point → ℤ
cross p q = p.x *ℤ q.y -ℤ q.x *ℤ p.y

-- the sum along a path that starts at the point and goes from each point of the list to the next
abbrev pub path_sum : Point → List Point → ℤ
path_sum p [] = pos 0
path_sum p (q ∷ qs) = cross p q +ℤ path_sum q qs

-- the sum round the ring, which is twice its area: above 0 where the ring has its inside on its left
abbrev pub round_sum : List Point → ℤ
round_sum [] = pos 0
round_sum (p ∷ ps) = path_sum p (ps ++ p ∷ [])
