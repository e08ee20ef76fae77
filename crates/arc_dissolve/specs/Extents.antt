-- Rectangles along the axes.
use Rattle.std.specs.Prelude.{Bool, ◌&&◌, List, ℤ, pos, ◌*ℤ◌, ◌≤ℤ◌, ◌<ℤ◌}
use Rattle.plane_edge.specs.Plane.{IsInside, is_within_of}
use Rattle.plane_edge.specs.declared.edge.Edge.{Edge}
use Rattle.plane_edge.specs.declared.point.Point.{Point}
use Rattle.plane_edge.specs.declared.spot.Spot.{Spot}
use Rattle.arc_dissolve.specs.declared.extent.Extent.{Extent}

-- the first point is neither right of the second nor above it
pub record IsLowerLeft (p q : Point) : Type 0 where
  pub x : p.x ≤ℤ q.x
  pub y : p.y ≤ℤ q.y

-- the point is in the rectangle, its sides included
pub record HasPoint (x : Extent) (p : Point) : Type 0 where
  pub low : IsLowerLeft x.low p
  pub high : IsLowerLeft p x.high

-- both ends of the edge are in the rectangle
pub record HasEdge (x : Extent) (e : Edge) : Type 0 where
  pub low : HasPoint x e.low
  pub high : HasPoint x e.high

-- the first rectangle is round the second
pub record HasExtent (x y : Extent) : Type 0 where
  pub low : IsLowerLeft x.low y.low
  pub high : IsLowerLeft y.high x.high

-- the spot is in the rectangle, its sides included
pub record HasSpot (x : Extent) (s : Spot) : Type 0 where
  pub west : (x.low.x *ℤ s.m) ≤ℤ s.x
  pub east : s.x ≤ℤ (x.high.x *ℤ s.m)
  pub south : (x.low.y *ℤ s.m) ≤ℤ s.y
  pub north : s.y ≤ℤ (x.high.y *ℤ s.m)

-- `HasSpot` as a test
abbrev pub has_spot : Extent → Spot → Bool
has_spot x s = is_within_of (x.low.x *ℤ s.m) s.x (x.high.x *ℤ s.m) && is_within_of (x.low.y *ℤ s.m) s.y (x.high.y *ℤ s.m)

-- each spot that is inside the edges is in the rectangle
abbrev pub IsExtentOf : List Edge → Extent → Type 0
IsExtentOf edges x = (s : Spot) → pos 0 <ℤ s.m → IsInside edges s → HasSpot x s
