-- The tree of a drawn map spells its areas.
use Rattle.std.proofs.Common.{◌≡◌, ℕ, suc, ◌+◌, ◌<◌, ◌≤◌, ◌^◌, Bool, true, false, not, List, [], ◌∷◌, ◌++◌, length, map, flat_map, count_by, sum_by, Some, ℤ, pos, ◌+ℤ◌, if◌then◌else◌, All, refl, sym, ap, ap₂, ◌∙◌, subst, arith}
use Rattle.std.specs.Prelude.{codes}
use Rattle.std.specs.List.{AllByRecursion, AllZip, filter}
use Rattle.std.specs.Fmt.{signed_decimal}
use Rattle.std.proofs.lemmas.Int.{ints}
use Rattle.std.proofs.lemmas.List.{length-map, map-append}
use Rattle.std.proofs.lemmas.List.Elements.{recursion_from_All}
use Rattle.std.proofs.lemmas.List.Sums.{sum_by-cons}
use Rattle.std.proofs.lemmas.Grind.{flat_map-append}
use Rattle.json_text.specs.Tree.{Json, Str, array, object, member_of}
use Rattle.plane_edge.specs.Rings.{Area, ends_of, steps_of_ring, step_count}
use Rattle.plane_edge.specs.declared.frame.Frame.{Frame}
use Rattle.plane_edge.specs.declared.frame.Frame.TheVariants.{Plain, Scaled}
use Rattle.plane_edge.specs.declared.point.Point.{Point}
use Rattle.ring_arcs.specs.RingArcs.{IsIndex, arc_at}
use Rattle.topo_reader.specs.Arcs.{is_relative, SpellsFrame, SpellPoints, SpellsArc}
use Rattle.topo_reader.specs.Rings.{SpellsPath, SpellsRing, SpellsPolygon, polygons}
use Rattle.plane_edge.specs.Paths.{points_along}
use Rattle.map_values.specs.Positions.{SpellsPosition}
use Rattle.map_values.specs.Classes.{by_text}
use Rattle.topo_reader.specs.Topology.{is_passed, SpellsArea, collection, SpellsTopology}
use Rattle.arc_dissolve.specs.Drawing.{rings_in, steps_of}
use Rattle.arc_dissolve.specs.Rings.{points_round}
use Rattle.arc_dissolve.specs.Shapes.{Shape, Regions}
use Rattle.topo_writer.specs.MapText.{step_to, steps_from, positions_of}
use Rattle.topo_writer.specs.Drawing.{IsClosedRing, IsWritableClass, IsWritable, IsAreaOf, closed_path}
use Rattle.topo_reader.specs.Rings.{SpellsRings}
use Rattle.topo_writer.proofs.Numerals.{spells_whole}
use Rattle.topo_writer.proofs.MapTree.{number, position_tree, arc_tree, ring_tree, polygon_tree, geometry_tree, geometry_trees, collection_of, objects_of, transform_of, tree_of}
use Rattle.topo_writer.proofs.RingPoints.{path_is, ring_steps}
use Rattle.topo_writer.proofs.TreeText.{AreSmall, small_step, coordinate_fits, index_fits, AreClosed, closed_parts}

-- ---- arcs

abbrev base : Bool → ℤ → ℤ
base relative z = (if relative then z else pos 0)

position_spelled : (position : ℤ × ℤ) → AreSmall position → SpellsPosition (position_tree position) position.0 position.1
position_spelled position small = record {
  first = signed_decimal position.0;
  second = signed_decimal position.1;
  more = [];
  list = refl;
  x_is = spells_whole position.0 small.0;
  y_is = spells_whole position.1 small.1;
}

step_x : (relative : Bool) (before p : Point) → p.x ≡ base relative before.x +ℤ (step_to relative before p).0
step_x true before p = omega (arith, ints)
step_x false before p = omega (arith, ints)

step_y : (relative : Bool) (before p : Point) → p.y ≡ base relative before.y +ℤ (step_to relative before p).1
step_y true before p = omega (arith, ints)
step_y false before p = omega (arith, ints)

steps_spelled : (relative : Bool) (before : Point) (points : List Point) → SpellPoints relative (base relative before.x) (base relative before.y) (map position_tree (steps_from relative before points)) points
steps_spelled relative before [] = tt
steps_spelled relative before (p ∷ ps) =
    let step = step_to relative before p in (
      record {
        dx = step.0;
        dy = step.1;
        position = position_spelled step (small_step relative before p);
        x_is = step_x relative before p;
        y_is = step_y relative before p;
      },
      steps_spelled relative p ps,
    )

points_spelled : (relative : Bool) (arc : List Point) → SpellPoints relative (pos 0) (pos 0) (map position_tree (positions_of relative arc)) arc
points_spelled relative [] = tt
points_spelled relative (p ∷ ps) = (
  record {
    dx = p.x;
    dy = p.y;
    position = position_spelled (p.x, p.y) (coordinate_fits p.x p.x_in_range, coordinate_fits p.y p.y_in_range);
    x_is = omega (arith, ints);
    y_is = omega (arith, ints);
  },
  steps_spelled relative p ps,
)

as_many : (relative : Bool) (before : Point) (points : List Point) → length (steps_from relative before points) ≡ length points
as_many relative before [] = refl
as_many relative before (p ∷ ps) = ap suc (as_many relative p ps)

positions_count : (relative : Bool) (arc : List Point) → length (positions_of relative arc) ≡ length arc
positions_count relative [] = refl
positions_count relative (p ∷ ps) = ap suc (as_many relative p ps)

arc_spelled : (relative : Bool) (arc : List Point) → 2 ≤ length arc → SpellsArc relative (arc_tree relative arc) arc
arc_spelled relative arc long = record {
  positions = map position_tree (positions_of relative arc);
  list = refl;
  long = omega (arith, length-map (positions_of relative arc) position_tree, positions_count relative arc);
  points = points_spelled relative arc;
}

arcs_spelled : (relative : Bool) (arcs : List (List Point)) → AllByRecursion (λ arc. 2 ≤ length arc) arcs → AllZip (SpellsArc relative) (map (arc_tree relative) arcs) arcs
arcs_spelled relative [] long = tt
arcs_spelled relative (arc ∷ arcs) long = (arc_spelled relative arc long.0, arcs_spelled relative arcs long.1)

-- ---- rings

abbrev points_of : List (List Point) → List ℤ → List Point
points_of arcs indexes = points_along (map (arc_at arcs) indexes)

paths_spelled : (arcs : List (List Point)) → length arcs < 2 ^ 64 → (indexes : List ℤ) → AllByRecursion (IsIndex arcs) indexes → AllZip (SpellsPath arcs) (map number indexes) (map (arc_at arcs) indexes)
paths_spelled arcs few [] is = tt
paths_spelled arcs few (i ∷ indexes) is = (
  record {
    number = signed_decimal i;
    index = i;
    is = refl;
    whole = spells_whole i (index_fits arcs i few is.0);
    told = path_is arcs i is.0;
  },
  paths_spelled arcs few indexes is.1,
)

ring_spelled : (arcs : List (List Point)) → length arcs < 2 ^ 64 → (indexes : List ℤ) → IsClosedRing arcs indexes → SpellsRing arcs (ring_tree indexes) (points_of arcs indexes)
ring_spelled arcs few indexes closed = record {
  indexes = map number indexes;
  paths = map (arc_at arcs) indexes;
  begin = closed.closed.0;
  list = refl;
  some = omega (arith, closed.some, length-map indexes number);
  told = paths_spelled arcs few indexes (recursion_from_All (IsIndex arcs) indexes closed.in_range);
  closed = closed.closed.1;
  ring_is = refl;
}

rings_spelled : (arcs : List (List Point)) → length arcs < 2 ^ 64 → (rings : List (List ℤ)) → AllByRecursion (IsClosedRing arcs) rings → AllZip (SpellsRing arcs) (map ring_tree rings) (map (points_of arcs) rings)
rings_spelled arcs few [] closed = tt
rings_spelled arcs few (ring ∷ rings) closed = (ring_spelled arcs few ring closed.0, rings_spelled arcs few rings closed.1)

abbrev AreClosedRings : List (List Point) → List (List ℤ) → Type 0
AreClosedRings arcs polygon = AllByRecursion (IsClosedRing arcs) polygon

polygons_spelled : (arcs : List (List Point)) → length arcs < 2 ^ 64 → (parts : List (List (List ℤ))) → AllByRecursion (AreClosedRings arcs) parts
    → AllZip (SpellsPolygon arcs) (map polygon_tree parts) (map (λ polygon. map (points_of arcs) polygon) parts)
polygons_spelled arcs few [] closed = tt
polygons_spelled arcs few (polygon ∷ parts) closed = (
  record {
    parts = map ring_tree polygon;
    list = refl;
    each = rings_spelled arcs few polygon closed.0;
  },
  polygons_spelled arcs few parts closed.1,
)

-- the points of all rings of a region, each told with its first point at the end again
abbrev outlines_of : List (List Point) → Shape → List (List Point)
outlines_of arcs shape = flat_map (λ rings. rings) (map (λ polygon. map (points_of arcs) polygon) shape.polygons)

ring_steps_of : (arcs : List (List Point)) → All (λ arc. 2 ≤ length arc) arcs → (rings : List (List ℤ)) → AllByRecursion (IsClosedRing arcs) rings
    → flat_map steps_of_ring (map (points_of arcs) rings) ≡ flat_map (λ ring. steps_of_ring (points_round arcs ring)) rings
ring_steps_of arcs long [] closed = refl
ring_steps_of arcs long (ring ∷ rings) closed =
    ap₂ (λ (a b : List (Point × Point)). a ++ b) (ring_steps arcs long ring (recursion_from_All (IsIndex arcs) ring closed.0.in_range) closed.0) (ring_steps_of arcs long rings closed.1)

polygon_steps_of : (arcs : List (List Point)) → All (λ arc. 2 ≤ length arc) arcs → (parts : List (List (List ℤ))) → AllByRecursion (AreClosedRings arcs) parts
    → flat_map steps_of_ring (flat_map (λ rings. rings) (map (λ polygon. map (points_of arcs) polygon) parts)) ≡ flat_map (λ ring. steps_of_ring (points_round arcs ring)) (rings_in parts)
polygon_steps_of arcs long [] closed = refl
polygon_steps_of arcs long (polygon ∷ parts) closed =
    flat_map-append steps_of_ring (map (points_of arcs) polygon) (flat_map (λ rings. rings) (map (λ polygon. map (points_of arcs) polygon) parts))
    ∙ ap₂ (λ (a b : List (Point × Point)). a ++ b) (ring_steps_of arcs long polygon closed.0) (polygon_steps_of arcs long parts closed.1)
    ∙ sym (flat_map-append (λ ring. steps_of_ring (points_round arcs ring)) polygon (rings_in parts))

-- ---- areas

area_spelled : (arcs : List (List Point)) → length arcs < 2 ^ 64 → All (λ arc. 2 ≤ length arc) arcs → (region : ℕ) (shape : Shape) → IsWritableClass shape.class → AreClosed arcs shape
    → (area : Area) → IsAreaOf arcs shape area → SpellsArea arcs (codes "class") (geometry_tree region shape) area
area_spelled arcs few long region shape class closed area is =
    let parts = closed_parts arcs shape closed in
    record {
      rings = outlines_of arcs shape;
      class_is = record {
        properties = object ((codes "class", Str shape.class) ∷ []);
        value = Str shape.class;
        properties_are = refl;
        value_is = refl;
        class_is = by_text (ap Str (sym is.class_is)) (subst (λ c. 1 ≤ length c) (sym is.class_is) class.some) (subst (λ c. length c ≤ 100) (sym is.class_is) class.few);
      };
      rings_are = polygons (map polygon_tree shape.polygons) (map (λ polygon. map (points_of arcs) polygon) shape.polygons) refl refl (polygons_spelled arcs few shape.polygons parts) refl;
      steps_are = is.steps_are ∙ sym (polygon_steps_of arcs long shape.polygons parts);
    }

areas_spelled : (arcs : List (List Point)) → length arcs < 2 ^ 64 → All (λ arc. 2 ≤ length arc) arcs → (region : ℕ) (shapes : List Shape) → AllByRecursion (λ shape. IsWritableClass shape.class) shapes → AllByRecursion (AreClosed arcs) shapes
    → (areas : List Area) → AllZip (IsAreaOf arcs) shapes areas → AllZip (SpellsArea arcs (codes "class")) (filter (λ place. not (is_passed place)) (geometry_trees region shapes)) areas
areas_spelled arcs few long region [] classes closed [] are = tt
areas_spelled arcs few long region [] classes closed (area ∷ areas) are = absurd are
areas_spelled arcs few long region (shape ∷ shapes) classes closed [] are = absurd are
areas_spelled arcs few long region (shape ∷ shapes) classes closed (area ∷ areas) are =
    (area_spelled arcs few long region shape classes.0 closed.0 area are.0, areas_spelled arcs few long (region + 1) shapes classes.1 closed.1 areas are.1)

none_passed : (region : ℕ) (shapes : List Shape) → 0 ≡ count_by is_passed (geometry_trees region shapes)
none_passed region [] = refl
none_passed region (shape ∷ shapes) = none_passed (region + 1) shapes

count_is : (arcs : List (List Point)) (shapes : List Shape) (areas : List Area) → AllZip (IsAreaOf arcs) shapes areas → length areas ≡ length shapes
count_is arcs [] [] are = refl
count_is arcs [] (area ∷ areas) are = absurd are
count_is arcs (shape ∷ shapes) [] are = absurd are
count_is arcs (shape ∷ shapes) (area ∷ areas) are = ap suc (count_is arcs shapes areas are.1)

step_count_is : (arcs : List (List Point)) (shapes : List Shape) (areas : List Area) → AllZip (IsAreaOf arcs) shapes areas → step_count areas ≡ sum_by (λ shape. length (steps_of arcs shape)) shapes
step_count_is arcs [] [] are = refl
step_count_is arcs [] (area ∷ areas) are = absurd are
step_count_is arcs (shape ∷ shapes) [] are = absurd are
step_count_is arcs (shape ∷ shapes) (area ∷ areas) are =
    sum_by-cons (λ (a : Area). length a.steps) area areas
    ∙ ap₂ (λ m n. m + n) (sym (length-map area.steps ends_of) ∙ ap length are.0.steps_are) (step_count_is arcs shapes areas are.1)
    ∙ sym (sum_by-cons (λ shape. length (steps_of arcs shape)) shape shapes)

-- ---- the rings of all geometries

-- the closed paths of all rings, and those polygon by polygon
paths_in : (arcs : List (List Point)) (parts : List (List (List ℤ))) → map (closed_path arcs) (rings_in parts) ≡ flat_map (λ rings. rings) (map (λ polygon. map (closed_path arcs) polygon) parts)
paths_in arcs [] = refl
paths_in arcs (polygon ∷ parts) = map-append (closed_path arcs) polygon (rings_in parts) ∙ ap (λ paths. map (closed_path arcs) polygon ++ paths) (paths_in arcs parts)

shape_rings_spelled : (arcs : List (List Point)) → length arcs < 2 ^ 64 → (region : ℕ) (shape : Shape) → AreClosed arcs shape → SpellsRings arcs (geometry_tree region shape) (map (closed_path arcs) (rings_in shape.polygons))
shape_rings_spelled arcs few region shape closed =
    polygons (map polygon_tree shape.polygons) (map (λ polygon. map (closed_path arcs) polygon) shape.polygons) refl refl (polygons_spelled arcs few shape.polygons (closed_parts arcs shape closed)) (paths_in arcs shape.polygons)

shapes_rings_spelled : (arcs : List (List Point)) → length arcs < 2 ^ 64 → (region : ℕ) (shapes : List Shape) → AllByRecursion (AreClosed arcs) shapes
    → AllZip (λ geometry shape. SpellsRings arcs geometry (map (closed_path arcs) (rings_in shape.polygons))) (geometry_trees region shapes) shapes
shapes_rings_spelled arcs few region [] closed = tt
shapes_rings_spelled arcs few region (shape ∷ shapes) closed = (shape_rings_spelled arcs few region shape closed.0, shapes_rings_spelled arcs few (region + 1) shapes closed.1)

-- ---- the whole tree

-- a topology of these areas, whose geometries spell the rings of the drawn regions
pub record SpellsWithRings (tree : Json) (regions : Regions) (frame : Frame) (areas : List Area) : Type 0 where
  pub topology : SpellsTopology tree (codes "class") (Some (codes "regions")) (record { areas = areas; passed = 0; frame = frame })
  pub rings : AllZip (λ geometry shape. SpellsRings topology.arcs geometry (map (closed_path regions.arcs) (rings_in shape.polygons))) topology.places regions.shapes

spelled_by : (regions : Regions) (frame : Frame) → IsWritable regions frame → length regions.arcs < 2 ^ 64 → (areas : List Area) → AllZip (IsAreaOf regions.arcs) regions.shapes areas
    → (tree : Json) → member_of tree (codes "type") ≡ Some (Str (codes "Topology")) → SpellsFrame tree frame
    → member_of tree (codes "objects") ≡ Some (objects_of (array (geometry_trees 0 regions.shapes))) → member_of tree (codes "arcs") ≡ Some (array (map (arc_tree (is_relative frame)) regions.arcs))
    → SpellsWithRings tree regions frame areas
spelled_by regions frame is few areas are tree type_is frame_is objects_are parts_are =
    let shapes = regions.shapes in
    let classes = recursion_from_All (λ (shape : Shape). IsWritableClass shape.class) shapes is.classes in
    let closed = recursion_from_All (AreClosed regions.arcs) shapes is.rings in
    record {
      topology = record {
        objects = objects_of (array (geometry_trees 0 shapes));
        picked = collection_of (array (geometry_trees 0 shapes));
        places = geometry_trees 0 shapes;
        parts = map (arc_tree (is_relative frame)) regions.arcs;
        arcs = regions.arcs;
        type_is = type_is;
        frame_is = frame_is;
        objects_are = objects_are;
        picked_is = refl;
        parts_are = parts_are;
        arcs_are = arcs_spelled (is_relative frame) regions.arcs (recursion_from_All (λ arc. 2 ≤ length arc) regions.arcs is.long);
        places_are = collection refl refl;
        areas_are = areas_spelled regions.arcs few is.long 0 shapes classes closed areas are;
        passed_is = none_passed 0 shapes;
        few_areas = omega (arith, count_is regions.arcs shapes areas are, is.few_shapes);
        few_steps = omega (arith, step_count_is regions.arcs shapes areas are, is.few_steps);
      };
      rings = shapes_rings_spelled regions.arcs few 0 shapes closed;
    }

pub tree_spells : (regions : Regions) (frame : Frame) → IsWritable regions frame → length regions.arcs < 2 ^ 64 → (areas : List Area) → AllZip (IsAreaOf regions.arcs) regions.shapes areas
    → SpellsWithRings (tree_of regions frame) regions frame areas
tree_spells regions Plain is few areas are = spelled_by regions Plain is few areas are (tree_of regions Plain) refl refl refl refl
tree_spells regions (Scaled sx sy tx ty) is few areas are =
    spelled_by regions (Scaled sx sy tx ty) is few areas are (tree_of regions (Scaled sx sy tx ty)) refl (transform_of sx sy tx ty, refl, record { scale = refl; translate = refl }) refl refl
