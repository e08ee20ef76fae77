-- The border edges of a region: those that are odd in an odd number of its areas.
use Rattle.std.specs.Prelude.{◌≡◌, ◌↔◌, ℕ, zero, suc, ◌+◌, ◌%◌, ◌==◌, Bool, ◌&&◌, if◌then◌else◌, List, [], length, get_or, sum_by, Contains}
use Rattle.std.specs.List.{list_any}
use Rattle.plane_edge.specs.declared.edge.Edge.{Edge}
use Rattle.plane_edge.specs.Edges.{is_same_edge, IsRisingEdges}
use Rattle.coverage_check.specs.Cover.{odd_of}

-- how many of the numbers below n pass the test
abbrev pub count_below : ℕ → (ℕ → Bool) → ℕ
count_below zero test = 0
count_below (suc n) test = count_below n test + (if test n then 1 else 0)

-- the edge is odd in the area
abbrev pub is_odd_in : List (List Edge) → ℕ → Edge → Bool
is_odd_in odds v e = list_any (λ f. is_same_edge e f) (odd_of odds v)

-- in how many of the areas of region r the edge is odd
abbrev pub uses_in : List (List Edge) → (ℕ → ℕ) → ℕ → Edge → ℕ
uses_in odds region r e = count_below (length odds) (λ v. (region v == r) && is_odd_in odds v e)

-- it is odd in an odd number of them
abbrev pub IsBorderOf : List (List Edge) → (ℕ → ℕ) → ℕ → Edge → Type 0
IsBorderOf odds region r e = uses_in odds region r e % 2 ≡ 1

-- the edges are the border edges of region r, each once, in rising order
pub record AreBorderOf (odds : List (List Edge)) (region : ℕ → ℕ) (r : ℕ) (edges : List Edge) : Type 0 where
  pub rising : IsRisingEdges edges
  pub exact : (e : Edge) → Contains edges e ↔ IsBorderOf odds region r e

-- the list of the region, none past the last region
abbrev pub list_at : List (List Edge) → ℕ → List Edge
list_at edges r = get_or edges r []

-- how many edges the lists have together
abbrev pub edge_count : List (List Edge) → ℕ
edge_count edges = sum_by (λ es. length es) edges
