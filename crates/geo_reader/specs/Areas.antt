-- The area that a feature spells.
use Rattle.std.specs.Prelude.{◌≡◌, ◌≤◌, ℕ, List, length, map, flat_map}
use Rattle.std.specs.List.{AllByRecursion, AllZip}
use Rattle.json_text.specs.Tree.{Json}
use Rattle.plane_edge.specs.Paths.{first_of, last_of}
use Rattle.plane_edge.specs.Rings.{Area, ends_of, steps_of_ring}
use Rattle.plane_edge.specs.declared.point.Point.{Point}
use Rattle.map_values.specs.Classes.{HasClass}
use Rattle.map_values.specs.Positions.{SpellsPosition}
use Rattle.geo_reader.specs.Features.{HasGeometry}

-- the position begins with the coordinates of the point
abbrev pub SpellsPoint : Json → Point → Type 0
SpellsPoint position p = SpellsPosition position p.x p.y

-- position by position
abbrev pub SpellPoints : List Json → List Point → Type 0
SpellPoints positions points = AllZip SpellsPoint positions points

-- ring by ring
abbrev pub SpellRings : List (List Json) → List (List Point) → Type 0
SpellRings rings outlines = AllZip SpellPoints rings outlines

-- four points or more, of which the last is the first again
pub record IsClosed (ring : List Point) : Type 0 where
  pub long : 4 ≤ length ring
  pub closed : first_of ring ≡ last_of ring

-- One area for all rings of the geometry: its class text stands among the properties under the name, and its steps are those of all rings of non-zero length.
pub record SpellsArea (name : List ℕ) (feature : Json) (area : Area) : Type 0 where
  pub positions : List (List Json)
  pub rings : List (List Point)
  pub geometry : HasGeometry feature positions
  pub class_is : HasClass feature name area.class
  pub rings_are : SpellRings positions rings
  pub closed : AllByRecursion IsClosed rings
  pub steps_are : map ends_of area.steps ≡ flat_map steps_of_ring rings
