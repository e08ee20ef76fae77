-- The map of a grouping.
use Rattle.std.specs.Prelude.{◌≡◌, ℕ, ◌+◌, ◌<◌, ◌≤◌, ℤ, List, [], length, flat_map, sum_by, get_or, All, Contains}
use Rattle.std.specs.List.Sorted.{IsPermutation}
use Rattle.agg_base.specs.declared.limits.TheConstants.{STEPS}
use Rattle.plane_edge.specs.Rings.{ends_of, times}
use Rattle.plane_edge.specs.declared.edge.Edge.{Edge}
use Rattle.plane_edge.specs.declared.point.Point.{Point}
use Rattle.agg_model.specs.Problem.{Grouping, region, class_in}
use Rattle.edge_sides.specs.LeftRings.{IsLeftRound}
use Rattle.region_edges.specs.RegionEdges.{IsBorderOf}
use Rattle.region_edges.specs.PointSets.{IsHeldBy}
use Rattle.ring_arcs.specs.RingArcs.{steps_of_arc, steps_of_arcs, AreArcsInOrder}
use Rattle.arc_dissolve.specs.Shapes.{Regions, Shape}
use Rattle.arc_dissolve.specs.Rings.{IsDrawnRing, points_round, steps_round}
use Rattle.arc_dissolve.specs.Holes.{IsPolygon, ArePolygonsInOrder}

-- the lists one after another
abbrev pub one_list : {X : Type 0} → List (List X) → List X
one_list lists = flat_map (λ list. list) lists

-- the rings of all polygons
abbrev pub rings_in : List (List (List ℤ)) → List (List ℤ)
rings_in polygons = one_list polygons

-- the steps of the rings of a shape
abbrev pub steps_of : List (List Point) → Shape → List (Point × Point)
steps_of arcs shape = steps_round arcs (rings_in shape.polygons)

-- all the rings, in polygons, which are in order
pub record ArePolygonsOf (arcs : List (List Point)) (rings : List (List ℤ)) (polygons : List (List (List ℤ))) : Type 0 where
  pub same : IsPermutation rings (rings_in polygons)
  pub each : All (IsPolygon arcs (rings_in polygons)) polygons
  pub in_order : ArePolygonsInOrder polygons

-- the steps go along each border edge of region r exactly once, and along no other edge
pub record AreBorderSteps (IsBorder : Edge → Type 0) (steps : List (Point × Point)) : Type 0 where
  pub once : (e : Edge) → IsBorder e → times (ends_of e) steps ≡ 1
  pub only : (s : Point × Point) → Contains steps s → (e : Edge) × ((ends_of e ≡ s) × IsBorder e)

-- the edge is odd in an odd number of the areas of some region
abbrev pub IsBorderEdge : List (List Edge) → Grouping → Edge → Type 0
IsBorderEdge odds groups e = (r : ℕ) × ((r < length groups.class_of) × IsBorderOf odds (region groups) r e)

-- the arcs of a map: two points or more, none of them twice in a row, and each border edge in one arc, once; the arcs are in order
pub record AreBorderArcs (odds : List (List Edge)) (groups : Grouping) (arcs : List (List Point)) : Type 0 where
  pub long : All (λ arc. 2 ≤ length arc) arcs
  pub stepping : All (λ arc. length (steps_of_arc arc) + 1 ≡ length arc) arcs
  pub steps : AreBorderSteps (IsBorderEdge odds groups) (steps_of_arcs arcs)
  pub in_order : AreArcsInOrder arcs

-- the shape of region r: the name of its class, closed rings round its border edges, each of which has the region on its left, and each hole with the shell that owns it; the polygons are
-- in order
pub record IsShapeOf (odds : List (List Edge)) (groups : Grouping) (names : List (List ℕ)) (arcs : List (List Point)) (r : ℕ) (shape : Shape) : Type 0 where
  pub class : shape.class ≡ get_or names (class_in groups r) []
  pub rings : All (IsDrawnRing arcs) (rings_in shape.polygons)
  pub left : All (λ ring. IsLeftRound (IsHeldBy odds (region groups) r) (points_round arcs ring)) (rings_in shape.polygons)
  pub steps : AreBorderSteps (IsBorderOf odds (region groups) r) (steps_of arcs shape)
  pub polygons : All (IsPolygon arcs (rings_in shape.polygons)) shape.polygons
  pub in_order : ArePolygonsInOrder shape.polygons

-- one shape for each region, in order, over arcs that store each border edge once; the rings have at most 2,097,152 steps together
pub record IsDrawingOf (odds : List (List Edge)) (groups : Grouping) (names : List (List ℕ)) (regions : Regions) : Type 0 where
  pub count : length regions.shapes ≡ length groups.class_of
  pub each : (r : ℕ) (shape : Shape) → r < length groups.class_of → IsShapeOf odds groups names regions.arcs r (get_or regions.shapes r shape)
  pub stored : AreBorderArcs odds groups regions.arcs
  pub few : sum_by (λ shape. length (steps_of regions.arcs shape)) regions.shapes ≤ STEPS
