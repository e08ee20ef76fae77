-- The text of a drawn map: a topology without white space, ended by a line feed.
use Rattle.std.specs.Prelude.{ℕ, ◌+◌, Bool, if◌then◌else◌, List, [], ◌∷◌, ◌++◌, codes, ℤ, ◌-ℤ◌}
use Rattle.std.specs.List.{join_by}
use Rattle.std.specs.Fmt.{decimal, signed_decimal}
use Rattle.json_text.specs.Strings.{escape}
use Rattle.plane_edge.specs.declared.frame.Frame.{Frame}
use Rattle.plane_edge.specs.declared.frame.Frame.TheVariants.{Plain, Scaled}
use Rattle.plane_edge.specs.declared.point.Point.{Point}
use Rattle.topo_reader.specs.Arcs.{is_relative}
use Rattle.arc_dissolve.specs.Shapes.{Shape, Regions}

-- the texts of the items, with commas between them
abbrev pub commas : {X : Type 0} → (X → List ℕ) → List X → List ℕ
commas text items = join_by text (44 ∷ []) items

-- the same in brackets
abbrev pub list_text : {X : Type 0} → (X → List ℕ) → List X → List ℕ
list_text text items = 91 ∷ (commas text items ++ 93 ∷ [])

-- a ring is a list of indexes, a polygon one of rings
abbrev pub ring_text : List ℤ → List ℕ
ring_text indexes = list_text signed_decimal indexes

abbrev pub polygon_text : List (List ℤ) → List ℕ
polygon_text rings = list_text ring_text rings

-- a region with its number
unfoldable pub geometry_text : ℕ → Shape → List ℕ
geometry_text region shape =
    codes "{\"type\":\"MultiPolygon\",\"id\":"
    ++ decimal region
    ++ codes ",\"properties\":{\"class\":\""
    ++ escape shape.class
    ++ codes "\"},\"arcs\":["
    ++ commas polygon_text shape.polygons
    ++ codes "]}"

-- regions behind others, each behind a comma; the first of them has that number
abbrev pub more_geometries : ℕ → List Shape → List ℕ
more_geometries region [] = []
more_geometries region (shape ∷ shapes) = 44 ∷ (geometry_text region shape ++ more_geometries (region + 1) shapes)

-- the regions, numbered from 0
abbrev pub geometries_text : List Shape → List ℕ
geometries_text [] = []
geometries_text (shape ∷ shapes) = geometry_text 0 shape ++ more_geometries 1 shapes

-- what tells the point behind another point: how far it is from there, or its own coordinates
abbrev pub step_to : Bool → Point → Point → ℤ × ℤ
step_to relative before p = (if relative then (p.x -ℤ before.x, p.y -ℤ before.y) else (p.x, p.y))

-- the same of each of the points, the first of which stands behind that point
abbrev pub steps_from : Bool → Point → List Point → List (ℤ × ℤ)
steps_from relative before [] = []
steps_from relative before (p ∷ ps) = step_to relative before p ∷ steps_from relative p ps

-- the first point of an arc is told by its own coordinates
abbrev pub positions_of : Bool → List Point → List (ℤ × ℤ)
positions_of relative [] = []
positions_of relative (p ∷ ps) = (p.x, p.y) ∷ steps_from relative p ps

abbrev pub position_text : ℤ × ℤ → List ℕ
position_text position = 91 ∷ (signed_decimal position.0 ++ 44 ∷ (signed_decimal position.1 ++ 93 ∷ []))

abbrev pub arc_text : Bool → List Point → List ℕ
arc_text relative arc = list_text position_text (positions_of relative arc)

-- nothing for a plain frame
unfoldable pub transform_text : Frame → List ℕ
transform_text Plain = []
transform_text (Scaled sx sy tx ty) =
    codes "\"transform\":{\"scale\":[" ++ (sx ++ 44 ∷ sy) ++ codes "],\"translate\":[" ++ (tx ++ 44 ∷ ty) ++ codes "]},"

-- Positions are relative where there is a transform.
unfoldable pub map_text : Regions → Frame → List ℕ
map_text regions frame =
    codes "{\"type\":\"Topology\","
    ++ transform_text frame
    ++ codes "\"objects\":{\"regions\":{\"type\":\"GeometryCollection\",\"geometries\":["
    ++ geometries_text regions.shapes
    ++ codes "]}},\"arcs\":["
    ++ commas (arc_text (is_relative frame)) regions.arcs
    ++ codes "]}\n"
