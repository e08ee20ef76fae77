-- Edges that have a direction.
use Rattle.std.specs.Prelude.{ℕ, Bool, if◌then◌else◌, List, slice_index_or, ℤ}
use Rattle.plane_edge.specs.Edges.{is_same_point}
use Rattle.plane_edge.specs.declared.edge.Edge.{Edge}
use Rattle.plane_edge.specs.declared.point.Point.{Point}
use Rattle.region_rings.specs.declared.way.Way.{Way}
use Rattle.region_rings.specs.Turning.{aim, is_first_by, is_met_sooner}

-- the end of the edge that is not the point
abbrev pub other_end_of : Edge → Point → Point
other_end_of e p = (if is_same_point e.low p then e.high else e.low)

-- the edge of that number and its direction
abbrev pub way_at : List Edge → List Bool → ℕ → Way → Way
way_at edges leftward i d = record { edge = slice_index_or edges i d.edge; is_leftward = slice_index_or leftward i d.is_leftward }

-- the end at which the way begins
abbrev pub tail_of : Way → Point
tail_of w = (if w.is_leftward then w.edge.low else w.edge.high)

-- the way begins at the point
abbrev pub is_from : Way → Point → Bool
is_from w p = is_same_point (tail_of w) p

-- at the point the first way is taken before the second: one that leads away before one that does not, of two alike the one that a clockwise turn from `back` meets first
abbrev pub is_taken_before : Point → ℤ × ℤ → Way → Way → Bool
is_taken_before p back v w =
    is_first_by (is_from v p) (is_from w p) (is_met_sooner back (aim p (other_end_of v.edge p)) (aim p (other_end_of w.edge p)))
