-- What an area weighs.
use Rattle.std.specs.Prelude.{ℕ, ◌*◌, ◌%◌, ◌&&◌, not, eqb, if◌then◌else◌, count_by, List, [], ◌∷◌, ℤ, pos, ◌+ℤ◌, ◌-ℤ◌, ◌*ℤ◌}
use Rattle.plane_edge.specs.declared.edge.Edge.{Edge}
use Rattle.plane_edge.specs.Edges.{is_same_edge}
use Rattle.plane_edge.specs.Middle.{middle_of}
use Rattle.plane_edge.specs.Plane.{is_crossed, rise}

-- how many of the other edges the ray from the edge's middle to the right crosses
abbrev pub others_crossed : List Edge → Edge → ℕ
others_crossed es e = count_by (λ f. not (is_same_edge e f) && is_crossed f (middle_of e)) es

-- twice what lies between the edge and the axis, a level edge none
abbrev pub swept : Edge → ℤ
swept e = (e.low.x +ℤ e.high.x) *ℤ rise e

-- that, plus where the middle crosses an even number of the other edges, else minus
abbrev pub signed_term : List Edge → Edge → ℤ
signed_term es e = (if eqb (others_crossed es e % 2) 0 then swept e else (pos 0 -ℤ swept e))

-- the sum over a list of edges
abbrev pub sum_over : (Edge → ℤ) → List Edge → ℤ
sum_over f [] = pos 0
sum_over f (e ∷ es) = f e +ℤ sum_over f es

-- the weight of an area with these odd edges, in twice the square unit
abbrev pub weight_of_edges : ℕ → ℕ → List Edge → ℤ
weight_of_edges wide high es = pos (wide * high) *ℤ sum_over (signed_term es) es
