-- Which points lie within the border edges of a region.
use Rattle.std.specs.Prelude.{◌≡◌, ◌↔◌, ℕ, ◌<◌, List, length, pos, ◌<ℤ◌}
use Rattle.plane_edge.specs.declared.edge.Edge.{Edge}
use Rattle.plane_edge.specs.declared.spot.Spot.{Spot}
use Rattle.plane_edge.specs.Edges.{IsRisingEdges, IsOdd}
use Rattle.plane_edge.specs.Plane.{IsInside}
use Rattle.coverage_check.specs.Cover.{odd_of, IsDisjointCover}
use Rattle.region_edges.specs.RegionEdges.{IsBorderOf, AreBorderOf}

-- the odd edges of each area are in rising order, so that none of them stands twice
abbrev pub AreRisingLists : List (List Edge) → Type 0
AreRisingLists odds = (v : ℕ) → v < length odds → IsRisingEdges (odd_of odds v)

-- an area of region r holds the spot
abbrev pub IsHeldBy : List (List Edge) → (ℕ → ℕ) → ℕ → Spot → Type 0
IsHeldBy odds region r s = (v : ℕ) × (v < length odds) × (region v ≡ r) × IsInside (odd_of odds v) s

-- the steps go along the border edges of region r an odd number of times, and along all other edges an even number of times
abbrev pub AreStepsOf : List (List Edge) → (ℕ → ℕ) → ℕ → List Edge → Type 0
AreStepsOf odds region r steps = (e : Edge) → IsOdd e steps ↔ IsBorderOf odds region r e

-- a point is inside the border edges of a region exactly where an area of the region holds it
abbrev pub PointSetsLaw : Type 0
PointSetsLaw =
    (odds : List (List Edge)) (region : ℕ → ℕ) (r : ℕ) (edges : List Edge) (s : Spot) → pos 0 <ℤ s.m → AreRisingLists odds → IsDisjointCover odds → AreBorderOf odds region r edges
    → IsInside edges s ↔ IsHeldBy odds region r s

-- and so it is with any steps that are drawn along the border, in whatever order and however often
abbrev pub DrawnLaw : Type 0
DrawnLaw =
    (odds : List (List Edge)) (region : ℕ → ℕ) (r : ℕ) (steps : List Edge) (s : Spot) → pos 0 <ℤ s.m → AreRisingLists odds → IsDisjointCover odds → AreStepsOf odds region r steps
    → IsInside steps s ↔ IsHeldBy odds region r s
