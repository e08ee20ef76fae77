-- The written map of a grouping.
use Rattle.std.specs.Prelude.{◌≡◌, ◌↔◌, ℕ, ◌≤◌, ◌<◌, List, [], length, get_or, slice_index_or, All, Some, codes, pos, ◌<ℤ◌}
use Rattle.agg_base.specs.declared.limits.TheConstants.{AREAS}
use Rattle.plane_edge.specs.declared.edge.Edge.{Edge}
use Rattle.plane_edge.specs.declared.point.Point.{Point}
use Rattle.plane_edge.specs.declared.frame.Frame.{Frame}
use Rattle.plane_edge.specs.declared.spot.Spot.{Spot}
use Rattle.plane_edge.specs.Plane.{IsInside}
use Rattle.plane_edge.specs.Rings.{Area}
use Rattle.coverage_check.specs.Checked.{Checked}
use Rattle.coverage_check.specs.Kept.{odd_list}
use Rattle.agg_model.specs.Problem.{Grouping, region, class_in}
use Rattle.json_text.specs.Tree.{Json}
use Rattle.json_text.specs.Spelling.{Spells}
use Rattle.edge_sides.specs.LeftRings.{IsLeftPath}
use Rattle.topo_reader.specs.Rings.{SpellsRings}
use Rattle.topo_reader.specs.Topology.{SpellsTopology}
use Rattle.region_edges.specs.PointSets.{AreStepsOf, IsHeldBy}
use Rattle.arc_dissolve.specs.Shapes.{Regions}
use Rattle.arc_dissolve.specs.Drawing.{IsDrawingOf}
use Rattle.topo_writer.specs.Drawing.{IsWritableClass}
use Rattle.map_values.specs.Frames.{IsNumberFrame}
use Rattle.topo_writer.specs.MapText.{map_text}

-- the grouping is one of the areas, with at most as many regions as a map has areas, its classes have names that can be written, and so can the frame
pub record IsDrawable (c : Checked) (g : Grouping) (names : List (List ℕ)) : Type 0 where
  pub one_each : length g.region_of ≡ length c.areas
  pub in_range : (v : ℕ) → v < length g.region_of → region g v < length g.class_of
  pub few : length g.class_of ≤ AREAS
  pub classes : (r : ℕ) → r < length g.class_of → class_in g r < length names
  pub named : All IsWritableClass names
  pub frame : IsNumberFrame c.frame

abbrev pub area_at : List Area → ℕ → Area
area_at areas r = slice_index_or areas r (record { class = []; steps = [] })

-- The drawn region r: it has the name of its region's class, its odd edges are those that are odd in an odd number of the areas of region r, and
-- a point, be it any rational one, is inside it exactly where it is inside an area of region r.
pub record IsDrawnRegion (odds : List (List Edge)) (g : Grouping) (names : List (List ℕ)) (r : ℕ) (area : Area) : Type 0 where
  pub class : area.class ≡ get_or names (class_in g r) []
  pub borders : AreStepsOf odds (region g) r area.steps
  pub points : (s : Spot) → pos 0 <ℤ s.m → IsInside (odd_list area.steps) s ↔ IsHeldBy odds (region g) r s

-- the geometry spells rings that have the region, whose points are those that are held, on their left at each step
pub record SpellsLeftRings (IsHeld : Spot → Type 0) (arcs : List (List Point)) (geometry : Json) : Type 0 where
  pub rings : List (List Point)
  pub told : SpellsRings arcs geometry rings
  pub left : All (IsLeftPath IsHeld) rings

-- The text is the map of the grouping: it is a topology of TopoJSON whose object `regions` has the drawn regions in order as its areas, with
-- their properties `class` as class texts, and the frame with the same characters. The rings of geometry r have region r on their left.
pub record IsDrawnMap (odds : List (List Edge)) (g : Grouping) (names : List (List ℕ)) (frame : Frame) (text : List ℕ) : Type 0 where
  pub regions : Regions
  pub drawing : IsDrawingOf odds g names regions
  pub layout : text ≡ map_text regions frame
  pub tree : Json
  pub areas : List Area
  pub spelled : Spells text tree
  pub topology : SpellsTopology tree (codes "class") (Some (codes "regions")) (record { areas = areas; passed = 0; frame = frame })
  pub one_each : length areas ≡ length g.class_of
  pub each : (r : ℕ) → r < length areas → IsDrawnRegion odds g names r (area_at areas r)
  pub left : (r : ℕ) (geometry : Json) → r < length areas → SpellsLeftRings (IsHeldBy odds (region g) r) topology.arcs (get_or topology.places r geometry)
