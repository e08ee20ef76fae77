-- On which side of an edge the region is, and in which direction an edge has it on its left.
use Rattle.std.specs.Prelude.{◌≡◌, ◌%◌, ◌==◌, Bool, true, false, if◌then◌else◌, not, List, count_by}
use Rattle.std.specs.Ordering.{int_eq}
use Rattle.plane_edge.specs.Middle.{middle_of}
use Rattle.plane_edge.specs.Plane.{IsInside, is_crossed}
use Rattle.plane_edge.specs.declared.edge.Edge.{Edge}
use Rattle.plane_edge.specs.declared.point.Point.{Point}
use Rattle.plane_edge.specs.declared.spot.Spot.{Spot}

-- both ends have one height
abbrev pub is_level : Edge → Bool
is_level e = int_eq e.low.y e.high.y

-- The region, whose points are those that are held, is on the left of the edge, seen from its low end to its high end. The ray from its middle does not cross the edge itself, so the middle
-- is held exactly where what lies just above a level edge, or just to the right of a rising one, is
pub record IsOnLeft (IsHeld : Spot → Type 0) (e : Edge) : Type 0 where
  pub level : is_level e ≡ true → IsHeld (middle_of e)
  pub rising : is_level e ≡ false → ¬ IsHeld (middle_of e)

-- it is on the right of the edge, seen so
pub record IsOnRight (IsHeld : Spot → Type 0) (e : Edge) : Type 0 where
  pub level : is_level e ≡ true → ¬ IsHeld (middle_of e)
  pub rising : is_level e ≡ false → IsHeld (middle_of e)

-- what is inside the edges is on the left of the edge
abbrev pub IsLeftward : List Edge → Edge → Type 0
IsLeftward edges e = IsOnLeft (IsInside edges) e

-- `IsInside` as a test
abbrev pub is_inside : List Edge → Spot → Bool
is_inside es s = (count_by (λ e. is_crossed e s) es % 2) == 1

-- `IsLeftward` as a test
abbrev pub is_leftward : List Edge → Edge → Bool
is_leftward edges e = (if is_level e then is_inside edges (middle_of e) else not (is_inside edges (middle_of e)))

-- the end from which the edge goes, with the region on its left
abbrev pub start_of : List Edge → Edge → Point
start_of edges e = (if is_leftward edges e then e.low else e.high)

-- the end to which it goes
abbrev pub finish_of : List Edge → Edge → Point
finish_of edges e = (if is_leftward edges e then e.high else e.low)
