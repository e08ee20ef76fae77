-- Topologies of TopoJSON, and the areas that they spell.
use Rattle.std.specs.Prelude.{◌≡◌, ◌≤◌, ℕ, Bool, not, ◌||◌, List, [], ◌∷◌, length, map, flat_map, count_by, Option, Some, None, codes}
use Rattle.std.specs.List.{AllByRecursion, AllZip, filter}
use Rattle.agg_base.specs.declared.limits.TheConstants.{AREAS, STEPS}
use Rattle.json_text.specs.Tree.{Json, Str, array, object, member_of}
use Rattle.plane_edge.specs.declared.point.Point.{Point}
use Rattle.plane_edge.specs.Rings.{Area, ends_of, steps_of_ring, step_count}
use Rattle.map_values.specs.Layers.{Layer}
use Rattle.map_values.specs.Members.{is_null}
use Rattle.map_values.specs.Classes.{HasClass}
use Rattle.topo_reader.specs.Arcs.{SpellsFrame, is_relative, SpellsArc}
use Rattle.topo_reader.specs.Rings.{SpellsRings}

-- a geometry is passed over where it is null, or its type is
abbrev pub is_passed : Json → Bool
is_passed tree = is_null (Some tree) || is_null (member_of tree (codes "type"))

-- One area: its class text stands among the properties under the name, and its steps are those of all rings of non-zero length.
pub record SpellsArea (arcs : List (List Point)) (name : List ℕ) (tree : Json) (area : Area) : Type 0 where
  pub rings : List (List Point)
  pub class_is : HasClass tree name area.class
  pub rings_are : SpellsRings arcs tree rings
  pub steps_are : map ends_of area.steps ≡ flat_map steps_of_ring rings

-- the geometries of a collection, or an object that is none by itself
pub data ArePlaces (tree : Json) (places : List Json) : Type 0 where
  collection : member_of tree (codes "type") ≡ Some (Str (codes "GeometryCollection")) → member_of tree (codes "geometries") ≡ Some (array places) → ArePlaces tree places
  alone : ¬ (member_of tree (codes "type") ≡ Some (Str (codes "GeometryCollection"))) → places ≡ tree ∷ [] → ArePlaces tree places

-- all members have that name
abbrev pub HasOneName : Json → List ℕ → Type 0
HasOneName objects name = (pairs : List (List ℕ × Json)) × (objects ≡ object pairs) × AllByRecursion (λ pair. pair.0 ≡ name) pairs

-- the object of that name; where none is told, the objects have one name, and it is that one
abbrev pub IsPicked : Json → Option (List ℕ) → Json → Type 0
IsPicked objects (Some name) picked = member_of objects name ≡ Some picked
IsPicked objects None picked = (name : List ℕ) × HasOneName objects name × (member_of objects name ≡ Some picked)

-- The value is a topology. Of its object `named`, or of its only one, each geometry that is not passed over is an area, whose class text is its property of that name.
pub record SpellsTopology (tree : Json) (class : List ℕ) (named : Option (List ℕ)) (layer : Layer) : Type 0 where
  pub objects : Json
  pub picked : Json
  pub places : List Json
  pub parts : List Json
  pub arcs : List (List Point)
  pub type_is : member_of tree (codes "type") ≡ Some (Str (codes "Topology"))
  pub frame_is : SpellsFrame tree layer.frame
  pub objects_are : member_of tree (codes "objects") ≡ Some objects
  pub picked_is : IsPicked objects named picked
  pub parts_are : member_of tree (codes "arcs") ≡ Some (array parts)
  pub arcs_are : AllZip (SpellsArc (is_relative layer.frame)) parts arcs
  pub places_are : ArePlaces picked places
  pub areas_are : AllZip (SpellsArea arcs class) (filter (λ place. not (is_passed place)) places) layer.areas
  pub passed_is : layer.passed ≡ count_by is_passed places
  pub few_areas : length layer.areas ≤ AREAS
  pub few_steps : step_count layer.areas ≤ STEPS

-- a value spells one map at most
abbrev pub OneLayer : Type 0
OneLayer = (tree : Json) (class : List ℕ) (named : Option (List ℕ)) (l m : Layer) → SpellsTopology tree class named l → SpellsTopology tree class named m → l ≡ m
