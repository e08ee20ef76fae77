-- Rings of points, and the steps of many rings.
use Rattle.std.specs.Prelude.{List, flat_map}
use Rattle.plane_edge.specs.Rings.{steps_of_ring}
use Rattle.plane_edge.specs.declared.point.Point.{Point}

-- the steps of the rings, ring by ring
abbrev pub steps_of_rings : List (List Point) → List (Point × Point)
steps_of_rings rings = flat_map steps_of_ring rings
