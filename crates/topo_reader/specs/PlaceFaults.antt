-- The rules of the geometries of the picked object.
use Rattle.std.specs.Prelude.{◌≡◌, ◌+◌, ◌<◌, ◌≤◌, ℕ, false, not, List, ◌∷◌, ◌++◌, length, map, flat_map, Some, codes}
use Rattle.std.specs.List.{AllByRecursion, AllZip, filter}
use Rattle.agg_base.specs.declared.limits.TheConstants.{AREAS, STEPS}
use Rattle.json_text.specs.Tree.{Json, Number, array, member_of}
use Rattle.map_values.specs.Classes.{HasClass}
use Rattle.map_values.specs.Measured.{HaveManySteps}
use Rattle.map_values.specs.Members.{HasType}
use Rattle.plane_edge.specs.Rings.{Area, step_count}
use Rattle.plane_edge.specs.declared.frame.Limit.TheVariants.{Areas, Edges}
use Rattle.plane_edge.specs.declared.point.Point.{Point}
use Rattle.topo_reader.specs.Rings.{SpellsPath, SpellsRing}
use Rattle.topo_reader.specs.Rules.{Unless, UnlessSome}
use Rattle.topo_reader.specs.Topology.{SpellsArea, is_passed}
use Rattle.topo_reader.specs.declared.fault.TopoFault.{TopoFault}
use Rattle.topo_reader.specs.declared.fault.TopoFault.TheVariants.{NotPolygonal, NoClass, BadIndex, OpenRing, Limit}

-- a list of numbers with these characters
abbrev pub ring_tree : List (List ℕ) → Json
ring_tree texts = array (map Number texts)

-- a list of such lists
abbrev pub polygon_tree : List (List (List ℕ)) → Json
polygon_tree rings = array (map ring_tree rings)

-- The geometry is a polygon with these rings, each a list of the texts of its indexes; or it is several polygons, and these are all their rings, in order.
pub data HasRings (tree : Json) (rings : List (List (List ℕ))) : Type 0 where
  of_polygon : HasType tree (codes "Polygon") → member_of tree (codes "arcs") ≡ Some (polygon_tree rings) → HasRings tree rings
  of_polygons : (each : List (List (List (List ℕ)))) → HasType tree (codes "MultiPolygon") → member_of tree (codes "arcs") ≡ Some (array (map polygon_tree each)) →
      rings ≡ flat_map (λ rings. rings) each → HasRings tree rings

-- the text is an index in range
abbrev pub IsIndex : List (List Point) → List ℕ → Type 0
IsIndex arcs text = (path : List Point) × SpellsPath arcs (Number text) path

abbrev pub AreIndexes : List (List Point) → List (List (List ℕ)) → Type 0
AreIndexes arcs rings = AllByRecursion (AllByRecursion (IsIndex arcs)) rings

-- the arcs of each ring join and close, along these points
abbrev pub AreClosed : List (List Point) → List (List (List ℕ)) → List (List Point) → Type 0
AreClosed arcs = AllZip (λ texts points. SpellsRing arcs (ring_tree texts) points)

-- the rules of the geometry at that place, behind so many areas with so many steps
abbrev pub BreaksPlace : List (List Point) → List ℕ → ℕ → ℕ → ℕ → Json → TopoFault → Type 0
BreaksPlace arcs name at count steps tree =
    UnlessSome (HasRings tree) (NotPolygonal at) (λ rings.
    Unless (count < AREAS) (Limit Areas) (
    UnlessSome (HasClass tree name) (NoClass at) (λ class.
    Unless (AreIndexes arcs rings) (BadIndex at) (
    UnlessSome (AreClosed arcs rings) (OpenRing at) (λ points fault.
    (fault ≡ Limit Edges) × HaveManySteps points steps)))))

-- the geometry is an area, and there is room for it behind so many areas with so many steps
pub record IsAreaBehind (arcs : List (List Point)) (name : List ℕ) (count steps : ℕ) (tree : Json) (area : Area) : Type 0 where
  pub spelled : SpellsArea arcs name tree area
  pub room : count < AREAS
  pub few : steps + length area.steps ≤ STEPS

-- the geometries that are not passed over are these areas, within the limits
pub record SpellAreas (arcs : List (List Point)) (name : List ℕ) (places : List Json) (areas : List Area) : Type 0 where
  pub each : AllZip (SpellsArea arcs name) (filter (λ place. not (is_passed place)) places) areas
  pub few_areas : length areas ≤ AREAS
  pub few_steps : step_count areas ≤ STEPS

-- one of the geometries is not passed over and breaks a rule, and those before it break none
pub record IsPlaceFault (arcs : List (List Point)) (name : List ℕ) (places : List Json) (fault : TopoFault) : Type 0 where
  pub before : List Json
  pub tree : Json
  pub after : List Json
  pub areas : List Area
  pub places_are : places ≡ before ++ tree ∷ after
  pub right : SpellAreas arcs name before areas
  pub counted : is_passed tree ≡ false
  pub broken : BreaksPlace arcs name (length before) (length areas) (step_count areas) tree fault
