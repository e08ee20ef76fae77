-- Maps of regions.
use Rattle.std.specs.Prelude.{ℕ, ℤ, List, map, Vec}
use Rattle.std.specs.declared.alloc.Global.{Global}
use Rattle.plane_edge.specs.declared.point.Point.{Point}

-- a drawn region: the bytes of its class text, and its polygons, each a list of rings, each a list of indexes of arcs
pub record Shape : Type 0 where
  pub class : List ℕ
  pub polygons : List (List (List ℤ))

-- a drawn map: its arcs, each a list of points, and its regions
pub record Regions : Type 0 where
  pub arcs : List (List Point)
  pub shapes : List Shape
