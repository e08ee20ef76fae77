-- The order of points: by y, then by x.
use Rattle.std.specs.Prelude.{Bool, ◌&&◌, ◌||◌, int_lt, int_le}
use Rattle.plane_edge.specs.declared.point.Point.{Point}

-- the first point comes before the second
abbrev pub is_below : Point → Point → Bool
is_below p q = int_lt p.y q.y || (int_le p.y q.y && int_lt p.x q.x)
