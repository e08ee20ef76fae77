-- A coverage as the lists of its areas' odd edges, one list for each area: planar, disjoint, and the first place inside two areas.
use Rattle.std.specs.Prelude.{◌≡◌, ℕ, ◌<◌, ◌≤◌, ◌⊎◌, List, [], get_or, Contains, ℤ, pos, ◌+ℤ◌, ◌*ℤ◌, ◌≤ℤ◌, ◌<ℤ◌}
use Rattle.plane_edge.specs.Plane.{IsInside, IsLowest}
use Rattle.plane_edge.specs.declared.edge.Edge.{Edge}
use Rattle.plane_edge.specs.declared.spot.Spot.{Spot}
use Rattle.coverage_check.specs.Crossing.{IsCrossing}
use Rattle.coverage_check.specs.Sharing.{IsShared}

-- the odd edges of the area, none past the last area
abbrev pub odd_of : List (List Edge) → ℕ → List Edge
odd_of odds a = get_or odds a []

-- the edge is odd in the area
abbrev pub IsOddIn : List (List Edge) → ℕ → Edge → Type 0
IsOddIn odds a e = Contains (odd_of odds a) e

-- the edge is odd in some area
abbrev pub IsOddSomewhere : List (List Edge) → Edge → Type 0
IsOddSomewhere odds e = (a : ℕ) × IsOddIn odds a e

-- no point lies on two different odd edges unless it is an end of both, and no edge is odd in three areas
pub record IsPlanarCover (odds : List (List Edge)) : Type 0 where
  pub no_crossing : (e f : Edge) (s : Spot) → ¬ IsCrossing (IsOddSomewhere odds) e f s
  pub no_shared : (e : Edge) → ¬ IsShared (IsOddIn odds) e

-- the point is inside the areas a and b, a below b
pub record IsOverlap (odds : List (List Edge)) (a b : ℕ) (s : Spot) : Type 0 where
  pub real : pos 0 <ℤ s.m
  pub rising : a < b
  pub in_a : IsInside (odd_of odds a) s
  pub in_b : IsInside (odd_of odds b) s

-- no point is inside two areas
abbrev pub IsDisjointCover : List (List Edge) → Type 0
IsDisjointCover odds = (a b : ℕ) (s : Spot) → ¬ IsOverlap odds a b s

-- an odd edge has an end at the height
abbrev pub IsHeight : List (List Edge) → ℤ → Type 0
IsHeight odds y = (e : Edge) × (IsOddSomewhere odds e × ((e.low.y ≡ y) ⊎ (e.high.y ≡ y)))

-- the point is in the middle of two neighbouring heights
pub record IsOnMidLine (odds : List (List Edge)) (s : Spot) : Type 0 where
  pub low : ℤ
  pub high : ℤ
  pub low_height : IsHeight odds low
  pub high_height : IsHeight odds high
  pub rising : low <ℤ high
  pub neighbours : (y : ℤ) → IsHeight odds y → (y ≤ℤ low) ⊎ (high ≤ℤ y)
  pub real : pos 0 <ℤ s.m
  pub middle : s.y *ℤ pos 2 ≡ (low +ℤ high) *ℤ s.m

-- on the lowest mid-line that has a point inside two areas, the leftmost such point in lowest terms, with the two least areas that it is inside
pub record IsFirstOverlap (odds : List (List Edge)) (a b : ℕ) (s : Spot) : Type 0 where
  pub overlap : IsOverlap odds a b s
  pub mid_line : IsOnMidLine odds s
  pub lowest_terms : IsLowest s
  pub lowest : (c d : ℕ) (t : Spot) → IsOnMidLine odds t → IsOverlap odds c d t → (s.y *ℤ t.m) ≤ℤ (t.y *ℤ s.m)
  pub leftmost : (c d : ℕ) (t : Spot) → IsOverlap odds c d t → t.y *ℤ s.m ≡ s.y *ℤ t.m → (s.x *ℤ t.m) ≤ℤ (t.x *ℤ s.m)
  pub two_least : (c : ℕ) → IsInside (odd_of odds c) s → (c ≡ a) ⊎ (b ≤ c)
