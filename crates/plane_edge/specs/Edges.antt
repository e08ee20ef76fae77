-- Equality and order of edges, lists of edges, and the edges that occur an odd number of times.
use Rattle.std.specs.Prelude.{◌≡◌, ◌↔◌, ℕ, ◌%◌, Bool, ◌&&◌, ◌||◌, IsTrue, List, [], ◌∷◌, All, Contains, count_by, ℤ, pos, ◌*ℤ◌, ◌<ℤ◌, int_lt, int_le}
use Rattle.std.specs.Ordering.{int_eq}
use Rattle.plane_edge.specs.Line.{is_end_of}
use Rattle.plane_edge.specs.Order.{is_below}
use Rattle.plane_edge.specs.declared.edge.Edge.{Edge}
use Rattle.plane_edge.specs.declared.point.Point.{Point}

-- the points have the same coordinates
abbrev pub is_same_point : Point → Point → Bool
is_same_point p q = int_eq p.x q.x && int_eq p.y q.y

-- the edges have the same ends
abbrev pub is_same_edge : Edge → Edge → Bool
is_same_edge e f = is_same_point e.low f.low && is_same_point e.high f.high

-- the order of edges: by the low end, then by the high end
abbrev pub is_edge_below : Edge → Edge → Bool
is_edge_below e f = is_below e.low f.low || (is_same_point e.low f.low && is_below e.high f.high)

-- strictly rising: each edge is below all that come after it
abbrev pub IsRisingEdges : List Edge → Type 0
IsRisingEdges [] = Unit {0}
IsRisingEdges (e ∷ es) = All (λ f. IsTrue (is_edge_below e f)) es × IsRisingEdges es

-- how often the edge occurs in the list
abbrev pub occurrences : Edge → List Edge → ℕ
occurrences e es = count_by (λ f. is_same_edge e f) es

-- the edge occurs an odd number of times
abbrev pub IsOdd : Edge → List Edge → Type 0
IsOdd e es = occurrences e es % 2 ≡ 1

-- the edges that occur an odd number of times among the steps, each once, in rising order
pub record AreOddOf (steps odd : List Edge) : Type 0 where
  pub rising : IsRisingEdges odd
  pub exact : (e : Edge) → Contains odd e ↔ IsOdd e steps

-- each point is an end of an even number of the edges
abbrev pub HaveEvenEnds : List Edge → Type 0
HaveEvenEnds es = (p : Point) → count_by (λ e. is_end_of e p) es % 2 ≡ 0

-- the edge has a point at the height y/m, its high end left out
abbrev pub is_reached : ℤ → ℤ → Edge → Bool
is_reached y m e = int_le (e.low.y *ℤ m) y && int_lt y (e.high.y *ℤ m)

-- each height is reached by an even number of the edges
abbrev pub IsClosed : List Edge → Type 0
IsClosed es = (y m : ℤ) → pos 0 <ℤ m → count_by (λ e. is_reached y m e) es % 2 ≡ 0
