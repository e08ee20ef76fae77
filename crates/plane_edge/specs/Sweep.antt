-- The step of a sweep over a sorted list of edges.
use Rattle.std.specs.Prelude.{◌-◌, Bool, ◌&&◌, if◌then◌else◌, List, [], ◌∷◌, ◌++◌, length, take, nat_lt, slice_index_or}
use Rattle.plane_edge.specs.Edges.{is_same_edge}
use Rattle.plane_edge.specs.declared.edge.Edge.{Edge}

-- the list ends with the edge
abbrev pub is_last : List Edge → Edge → Bool
is_last es e = nat_lt 0 (length es) && is_same_edge (slice_index_or es (length es - 1) e) e

-- the edge goes where it is the last one, else it comes
abbrev pub toggle : List Edge → Edge → List Edge
toggle es e = (if is_last es e then take (length es - 1) es else es ++ e ∷ [])
