-- What is inside two areas in the middle of one strip. `odds a` is the list of the odd edges of the area a.
use Rattle.std.specs.Prelude.{◌≡◌, ℕ, ◌+◌, ◌<◌, ◌≤◌, ◌⊎◌, List, get_or, length, ℤ, pos, ◌+ℤ◌, ◌-ℤ◌, ◌*ℤ◌, ◌≤ℤ◌, ◌<ℤ◌}
use Rattle.plane_edge.specs.Plane.{IsInside, IsLowest, along, rise}
use Rattle.plane_edge.specs.declared.edge.Edge.{Edge}
use Rattle.plane_edge.specs.declared.spot.Spot.{Spot}

-- where the edge is in the middle of h and k
abbrev pub mid_of : ℤ → ℤ → Edge → Spot
mid_of h k e = along e ((h +ℤ k) -ℤ e.low.y *ℤ pos 2) (rise e *ℤ pos 2)

-- the spot is in the middle of h and k, inside a and b
pub record IsBetween (odds : ℕ → List Edge) (h k : ℤ) (a b : ℕ) (s : Spot) : Type 0 where
  pub real : pos 0 <ℤ s.m
  pub middle : s.y *ℤ pos 2 ≡ (h +ℤ k) *ℤ s.m
  pub rising : a < b
  pub in_a : IsInside (odds a) s
  pub in_b : IsInside (odds b) s

-- it is the leftmost such spot, and a and b are the least
pub record IsFirstBetween (odds : ℕ → List Edge) (h k : ℤ) (a b : ℕ) (s : Spot) : Type 0 where
  pub here : IsBetween odds h k a b s
  pub leftmost : (c d : ℕ) (t : Spot) → IsBetween odds h k c d t → (s.x *ℤ t.m) ≤ℤ (t.x *ℤ s.m)
  pub two_least : (c : ℕ) → IsInside (odds c) s → (c ≡ a) ⊎ (b ≤ c)

abbrev pub IsNoneBetween : (ℕ → List Edge) → ℤ → ℤ → Type 0
IsNoneBetween odds h k = (a b : ℕ) (s : Spot) → ¬ IsBetween odds h k a b s

-- the height of that number, from below
abbrev pub height_at : List ℤ → ℕ → ℤ
height_at hs i = get_or hs i (pos 0)

-- nowhere in the strips below the height of that number
abbrev pub IsNoneBelow : (ℕ → List Edge) → List ℤ → ℕ → Type 0
IsNoneBelow odds hs n = (i : ℕ) → i < n → IsNoneBetween odds (height_at hs i) (height_at hs (i + 1))

-- the first such spot of the lowest strip that has one
pub record IsFirstIn (odds : ℕ → List Edge) (hs : List ℤ) (a b : ℕ) (s : Spot) : Type 0 where
  pub at : ℕ
  pub within : at + 1 < length hs
  pub first : IsFirstBetween odds (height_at hs at) (height_at hs (at + 1)) a b s
  pub lowest_terms : IsLowest s
  pub none_below : IsNoneBelow odds hs at
