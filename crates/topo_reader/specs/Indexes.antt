-- The indexes of rings as whole numbers, and the points along the arcs that they tell.
use Rattle.std.specs.Prelude.{◌≡◌, ◌<◌, ◌-◌, ℕ, Bool, true, false, nat_lt, List, [], ◌∷◌, length, map, take, reverse, sum_by, unwrap_or, slice_get, Option, Some, None, codes, ℤ, pos, negsuc}
use Rattle.std.specs.Borrow.{Bor}
use Rattle.std.specs.List.{AllZip, list_all}
use Rattle.agg_base.specs.Numbers.{IsWholeAnswer}
use Rattle.agg_base.specs.declared.numeral.Whole.{Whole}
use Rattle.agg_base.specs.declared.numeral.Whole.TheVariants.{Not, Beyond, Is}
use Rattle.json_text.specs.Tree.{Json, Number, array, member_of}
use Rattle.json_text.specs.Values.{list_of}
use Rattle.json_text.specs.declared.tree.Tree.{Tree}
use Rattle.map_values.specs.Members.{HasType}
use Rattle.map_values.specs.Positions.{SpellsInteger}
use Rattle.plane_edge.specs.Paths.{AreJoined, first_of, points_along}
use Rattle.plane_edge.specs.declared.point.Point.{Point}

-- the values of rings that are borrowed
abbrev pub rings_in : List (Bor (List Tree)) → List (List Json)
rings_in rings = map (λ ring. list_of ring.now) rings

-- the numbers with the characters of each ring
abbrev pub ring_numbers : List (List (List ℕ)) → List (List Json)
ring_numbers rings = map (map Number) rings

-- the values are these whole numbers, as far as they are any
abbrev pub AreWholes : List Json → List Whole → Type 0
AreWholes = AllZip (λ tree whole. IsWholeAnswer (SpellsInteger tree) whole)

-- that holds of the whole numbers that the values of a ring are
abbrev pub OfRing : List Json → (List Whole → Type 0) → Type 0
OfRing ring P = (wholes : List Whole) → AreWholes ring wholes → P wholes

-- that holds of those of all rings
abbrev pub OfRings : List (List Json) → (List (List Whole) → Type 0) → Type 0
OfRings rings P = (wholes : List (List Whole)) → AllZip AreWholes rings wholes → P wholes

-- the polygons of a geometry, which need have no form
pub data HasPolygons (tree : Json) (polygons : List Json) : Type 0 where
  one : (polygon : Json) → HasType tree (codes "Polygon") → member_of tree (codes "arcs") ≡ Some polygon → polygons ≡ polygon ∷ [] → HasPolygons tree polygons
  several : HasType tree (codes "MultiPolygon") → member_of tree (codes "arcs") ≡ Some (array polygons) → HasPolygons tree polygons

-- the number is an index in range for so many arcs
abbrev pub is_index : ℕ → Whole → Bool
is_index count Not = false
is_index count Beyond = false
is_index count (Is (pos i)) = nat_lt i count
is_index count (Is (negsuc i)) = nat_lt i count

-- all indexes of a ring are in range
abbrev pub AreInRange : ℕ → List Whole → Type 0
AreInRange count ring = list_all (λ index. is_index count index) ring ≡ true

-- the same of all rings, as a test
abbrev pub are_indexes : ℕ → List (List Whole) → Bool
are_indexes count rings = list_all (λ ring. list_all (λ index. is_index count index) ring) rings

-- the index of the arc with that number, taken in its own order or backwards
abbrev pub index_of : Bool → ℕ → ℤ
index_of true i = pos i
index_of false i = negsuc i

-- the points in their own order or backwards
abbrev pub in_direction : Bool → List Point → List Point
in_direction true points = points
in_direction false points = reverse points

-- the points of the arc with that number; none where there is no such arc
abbrev pub arc_number : List (List Point) → ℕ → List Point
arc_number arcs i = unwrap_or (slice_get arcs i) []

-- the path that the index tells; that of no arc has no points
abbrev pub path_told : List (List Point) → Whole → List Point
path_told arcs Not = []
path_told arcs Beyond = []
path_told arcs (Is (pos i)) = arc_number arcs i
path_told arcs (Is (negsuc i)) = reverse (arc_number arcs i)

abbrev pub paths_told : List (List Point) → List Whole → List (List Point)
paths_told arcs indexes = map (path_told arcs) indexes

-- where the first path begins
abbrev pub begin_of : List (List Point) → Option Point
begin_of [] = None
begin_of (path ∷ paths) = first_of path

-- the same as a list
abbrev pub front_of : List (List Point) → List Point
front_of [] = []
front_of (path ∷ paths) = take 1 path

-- the paths that the indexes tell, one or more, join and close
abbrev pub CanClose : List (List Point) → List Whole → Type 0
CanClose arcs indexes = (0 < length (paths_told arcs indexes)) × ((begin : Point) × AreJoined (Some begin) (paths_told arcs indexes) (Some begin))

-- how many steps the paths of a ring have, where none has a point twice in a row
abbrev pub ring_steps : List (List Point) → List Whole → ℕ
ring_steps arcs indexes = sum_by (λ index. length (path_told arcs index) - 1) indexes

abbrev pub all_steps : List (List Point) → List (List Whole) → ℕ
all_steps arcs rings = sum_by (ring_steps arcs) rings

-- the points along the paths of each ring
abbrev pub rings_along : List (List Point) → List (List Whole) → List (List Point)
rings_along arcs rings = map (λ indexes. points_along (paths_told arcs indexes)) rings
