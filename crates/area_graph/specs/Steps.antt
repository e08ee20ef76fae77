-- What the borders come to, area by area.
use Rattle.std.specs.Prelude.{ℕ, zero, suc, Bool, cond, eqb, ◌&&◌, Option, Some, None, List, [], ◌∷◌, ℤ, pos, ◌+ℤ◌}
use Rattle.std.specs.Ordering.{ordering_then, nat_cmp, int_cmp}
use Rattle.std.specs.Prelude.{nat_lt}
use Rattle.std.specs.declared.cmp.Ordering.{Ordering}
use Rattle.area_graph.specs.declared.pair.Pair.{Pair}
use Rattle.plane_edge.specs.declared.point.Point.{Point}
use Rattle.plane_edge.specs.declared.edge.Edge.{Edge}
use Rattle.agg_model.specs.declared.problem.Link.{Link}
use Rattle.coverage_check.specs.Areas.{is_this}
use Rattle.coverage_check.specs.Cover.{odd_of}
use Rattle.area_graph.specs.Lengths.{is_among, edge_length}

-- the area waits for a second one, or it was the second one
abbrev pub toggled_by : ℕ → Option ℕ → Option ℕ
toggled_by area None = Some area
toggled_by area (Some first) = None

-- the one area among the first n that the edge is odd in, none where there are two
abbrev pub open_in : List (List Edge) → ℕ → Edge → Option ℕ
open_in odds zero e = None
open_in odds (suc n) e = cond (is_among (odd_of odds n) e) (toggled_by n (open_in odds n e)) (open_in odds n e)

-- what was summed up, and one more
abbrev pub longer : Option ℤ → ℤ → Option ℤ
longer None more = Some more
longer (Some sum) more = Some (sum +ℤ more)

-- the sum of the lengths of the edges that pass the test, on top of what was summed up
abbrev pub summed : ℕ → ℕ → (Edge → Bool) → List Edge → Option ℤ → Option ℤ
summed wide high test [] sum = sum
summed wide high test (e ∷ es) sum = summed wide high test es (cond (test e) (longer sum (pos (edge_length wide high e))) sum)

-- ---- the orders of keys

abbrev pub point_cmp : Point → Point → Ordering
point_cmp p q = ordering_then (int_cmp p.y q.y) (int_cmp p.x q.x)

abbrev pub edge_cmp : Edge → Edge → Ordering
edge_cmp e f = ordering_then (point_cmp e.low f.low) (point_cmp e.high f.high)

abbrev pub pair_cmp : Pair → Pair → Ordering
pair_cmp p q = ordering_then (nat_cmp p.a q.a) (nat_cmp p.b q.b)

-- the two areas are the same
abbrev pub is_same_pair : Pair → Pair → Bool
is_same_pair p q = eqb p.a q.a && eqb p.b q.b

-- what the second of two areas, the edges fs, sums up with the first, where `owner` tells the waiting area of each edge
abbrev pub border_sum : ℕ → ℕ → (Edge → Option ℕ) → List Edge → ℕ → Option ℤ
border_sum wide high owner fs a = summed wide high (λ e. is_this a (owner e)) fs None

-- the common borders of the first n areas
abbrev pub border_in : ℕ → ℕ → List (List Edge) → ℕ → Pair → Option ℤ
border_in wide high odds n q = cond (nat_lt q.b n) (border_sum wide high (open_in odds q.b) (odd_of odds q.b) q.a) None

-- the link of two areas with a length
abbrev pub link_of : Pair × ℤ → Link
link_of entry = record { a = entry.0.a; b = entry.0.b; length = entry.1 }
