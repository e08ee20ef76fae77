-- What a drawn map must keep to be written, and the areas that its text spells.
use Rattle.std.specs.Prelude.{◌≡◌, ◌≤◌, ◌<◌, ℕ, List, length, map, sum_by, All, Some, codes, ℤ}
use Rattle.std.specs.List.{AllZip}
use Rattle.map_values.specs.Frames.{IsNumberFrame}
use Rattle.agg_base.specs.declared.limits.TheConstants.{AREAS, STEPS}
use Rattle.json_text.specs.Tree.{Json}
use Rattle.json_text.specs.Spelling.{Spells}
use Rattle.plane_edge.specs.Paths.{points_along}
use Rattle.plane_edge.specs.Rings.{Area, ends_of}
use Rattle.plane_edge.specs.declared.frame.Frame.{Frame}
use Rattle.plane_edge.specs.declared.point.Point.{Point}
use Rattle.ring_arcs.specs.RingArcs.{arc_at, IsIndex}
use Rattle.topo_reader.specs.Rings.{SpellsRings}
use Rattle.topo_reader.specs.Topology.{SpellsTopology}
use Rattle.arc_dissolve.specs.Drawing.{rings_in, steps_of}
use Rattle.arc_dissolve.specs.Rings.{IsClosedWalk}
use Rattle.arc_dissolve.specs.Shapes.{Shape, Regions}

-- a class text of 1 to 100 bytes, none of them below 32
pub record IsWritableClass (class : List ℕ) : Type 0 where
  pub some : 1 ≤ length class
  pub few : length class ≤ 100
  pub printed : All (λ byte. 32 ≤ byte) class

-- indexes in range, one or more, of arcs that each begin where the one before ends, and the first where the last ends
pub record IsClosedRing (arcs : List (List Point)) (indexes : List ℤ) : Type 0 where
  pub some : 0 < length indexes
  pub in_range : All (IsIndex arcs) indexes
  pub closed : IsClosedWalk arcs indexes

-- the map may be written with the frame
pub record IsWritable (regions : Regions) (frame : Frame) : Type 0 where
  pub frame_is : IsNumberFrame frame
  pub few_shapes : length regions.shapes ≤ AREAS
  pub few_steps : sum_by (λ shape. length (steps_of regions.arcs shape)) regions.shapes ≤ STEPS
  pub classes : All (λ shape. IsWritableClass shape.class) regions.shapes
  pub long : All (λ arc. 2 ≤ length arc) regions.arcs
  pub rings : All (λ shape. All (IsClosedRing regions.arcs) (rings_in shape.polygons)) regions.shapes

-- the area has the region's class text, and the steps of its rings in order
pub record IsAreaOf (arcs : List (List Point)) (shape : Shape) (area : Area) : Type 0 where
  pub class_is : area.class ≡ shape.class
  pub steps_are : map ends_of area.steps ≡ steps_of arcs shape

-- the points of the ring, arc after arc, each but the first without its first point: so the ring's first point stands at the end again
abbrev pub closed_path : List (List Point) → List ℤ → List Point
closed_path arcs ring = points_along (map (arc_at arcs) ring)

-- The bytes are a topology whose object `regions` has the drawn regions in order as its areas, with their properties `class` as class texts, passes over none, and has the frame.
-- Its geometries in order spell the rings of the drawn regions, polygon by polygon, as closed paths.
pub record SpellsDrawn (bytes : List ℕ) (regions : Regions) (frame : Frame) : Type 0 where
  pub tree : Json
  pub areas : List Area
  pub are : AllZip (IsAreaOf regions.arcs) regions.shapes areas
  pub text : Spells bytes tree
  pub topology : SpellsTopology tree (codes "class") (Some (codes "regions")) (record { areas = areas; passed = 0; frame = frame })
  pub rings : AllZip (λ geometry shape. SpellsRings topology.arcs geometry (map (closed_path regions.arcs) (rings_in shape.polygons))) topology.places regions.shapes
