-- Ways: each border edge from either end. The order of points and of ways, as `cmp` gives it.
use Rattle.std.specs.Prelude.{◌↔◌, List, [], ◌∷◌, flat_map, Contains}
use Rattle.std.specs.Ordering.{ordering_then, int_cmp}
use Rattle.std.specs.declared.cmp.Ordering.{Ordering}
use Rattle.plane_edge.specs.Rings.{in_order}
use Rattle.plane_edge.specs.declared.edge.Edge.{Edge}
use Rattle.plane_edge.specs.declared.point.Point.{Point}

-- by y, then by x
abbrev pub point_order : Point → Point → Ordering
point_order p q = ordering_then (int_cmp p.y q.y) (int_cmp p.x q.x)

-- by the point that the way leaves, then by the one that it comes to
abbrev pub way_order : Point × Point → Point × Point → Ordering
way_order v w = ordering_then (point_order v.0 w.0) (point_order v.1 w.1)

-- both ways along each edge
abbrev pub both_ways : List Edge → List (Point × Point)
both_ways edges = flat_map (λ e. (e.low, e.high) ∷ (e.high, e.low) ∷ []) edges

-- one of the steps is between the two points, from whichever side
abbrev pub IsStepBetween : List (Point × Point) → Point → Point → Type 0
IsStepBetween steps p q = Contains steps (in_order p q)

-- the ways are those along the steps, from either end
abbrev pub AreWaysOf : List (Point × Point) → List (Point × Point) → Type 0
AreWaysOf steps ways = (p q : Point) → Contains ways (p, q) ↔ IsStepBetween steps p q
