-- The rings of a geometry, told by indexes of arcs.
use Rattle.std.specs.Prelude.{◌≡◌, ◌<◌, ℕ, List, length, reverse, flat_map, slice_get, Option, Some, option_map, codes, ℤ, pos, negsuc}
use Rattle.std.specs.List.{AllZip}
use Rattle.agg_base.specs.Numbers.{SpellsWhole}
use Rattle.json_text.specs.Tree.{Json, Number, Str, array, member_of}
use Rattle.plane_edge.specs.Paths.{AreJoined, points_along}
use Rattle.plane_edge.specs.declared.point.Point.{Point}

-- the path that an index tells: i tells arc i, and -i - 1, which is `negsuc i`, arc i backwards; an index out of range tells none
abbrev pub path_of : List (List Point) → ℤ → Option (List Point)
path_of arcs (pos i) = slice_get arcs i
path_of arcs (negsuc i) = option_map reverse (slice_get arcs i)

-- a whole number that is an index in range
pub record SpellsPath (arcs : List (List Point)) (tree : Json) (path : List Point) : Type 0 where
  pub number : List ℕ
  pub index : ℤ
  pub is : tree ≡ Number number
  pub whole : SpellsWhole number index
  pub told : path_of arcs index ≡ Some path

-- a list of indexes, one or more, of arcs that join and close
pub record SpellsRing (arcs : List (List Point)) (tree : Json) (ring : List Point) : Type 0 where
  pub indexes : List Json
  pub paths : List (List Point)
  pub begin : Point
  pub list : tree ≡ array indexes
  pub some : 0 < length indexes
  pub told : AllZip (SpellsPath arcs) indexes paths
  pub closed : AreJoined (Some begin) paths (Some begin)
  pub ring_is : ring ≡ points_along paths

-- a list of rings
pub record SpellsPolygon (arcs : List (List Point)) (tree : Json) (rings : List (List Point)) : Type 0 where
  pub parts : List Json
  pub list : tree ≡ array parts
  pub each : AllZip (SpellsRing arcs) parts rings

-- the rings of a geometry: those of a polygon, or those of one polygon after another
pub data SpellsRings (arcs : List (List Point)) (tree : Json) (rings : List (List Point)) : Type 0 where
  polygon : (part : Json) → member_of tree (codes "type") ≡ Some (Str (codes "Polygon")) → member_of tree (codes "arcs") ≡ Some part →
      SpellsPolygon arcs part rings → SpellsRings arcs tree rings
  polygons : (parts : List Json) (each : List (List (List Point))) → member_of tree (codes "type") ≡ Some (Str (codes "MultiPolygon")) → member_of tree (codes "arcs") ≡ Some (array parts) →
      AllZip (SpellsPolygon arcs) parts each → rings ≡ flat_map (λ rings. rings) each → SpellsRings arcs tree rings
