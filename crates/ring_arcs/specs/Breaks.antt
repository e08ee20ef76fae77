-- Where rings are cut: at nodes, and at one point of each ring that has none.
use Rattle.std.specs.Prelude.{Bool, if◌then◌else◌, not, ◌||◌, ◌==◌, IsTrue, List, Any, count_by}
use Rattle.std.specs.List.{list_any}
use Rattle.plane_edge.specs.Edges.{is_same_point}
use Rattle.plane_edge.specs.Order.{is_below}
use Rattle.plane_edge.specs.declared.point.Point.{Point}

-- the ways that leave the point are not two in number
abbrev pub is_node : List (Point × Point) → Point → Bool
is_node ways p = not (count_by (λ w. is_same_point w.0 p) ways == 2)

-- the point is a node, or one of the points at which rings without nodes are cut
abbrev pub is_break : List (Point × Point) → List Point → Point → Bool
is_break ways loops p = is_node ways p || list_any (λ q. is_same_point q p) loops

-- the ring is cut somewhere
abbrev pub IsBroken : List (Point × Point) → List Point → List Point → Type 0
IsBroken ways loops ring = Any (λ p. IsTrue (is_break ways loops p)) ring

-- the lesser of the two points
abbrev pub lesser : Point → Point → Point
lesser p q = (if is_below q p then q else p)
