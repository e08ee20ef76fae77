-- Numbers of arcs.
use Rattle.std.specs.Prelude.{◌<◌, ◌≤◌, ℕ, ℤ, pos, negsuc, Bool, nat_lt, List, length, get_or, Contains}
use Rattle.plane_edge.specs.declared.point.Point.{Point}
use Rattle.ring_arcs.specs.Turning.{arc_of}

-- the number of the arc that the index tells
abbrev pub number_of : ℤ → ℕ
number_of (pos i) = i
number_of (negsuc i) = i

-- the first index has a lesser number
abbrev pub is_before : ℤ → ℤ → Bool
is_before i j = nat_lt (number_of i) (number_of j)

-- none of the first n indexes has a lesser number than the one at that place
abbrev pub IsLeastAt : List ℤ → ℕ → ℕ → Type 0
IsLeastAt indexes n at = (k : ℕ) (d : ℤ) → k < n → number_of (get_or indexes at d) ≤ number_of (get_or indexes k d)

-- the chain is a path that is stored among the arcs
pub record IsStoredIn (arcs : List (List Point)) (chain : List Point) : Type 0 where
  pub long : 2 ≤ length chain
  pub stored : Contains arcs (arc_of chain)
