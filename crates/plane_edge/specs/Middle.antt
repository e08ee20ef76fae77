-- The middle of an edge.
use Rattle.std.specs.Prelude.{pos, ◌+ℤ◌}
use Rattle.plane_edge.specs.declared.edge.Edge.{Edge}
use Rattle.plane_edge.specs.declared.spot.Spot.{Spot}

-- the point half way between the ends
abbrev pub middle_of : Edge → Spot
middle_of e = record { x = e.low.x +ℤ e.high.x; y = e.low.y +ℤ e.high.y; m = pos 2 }
