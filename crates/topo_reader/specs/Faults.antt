-- The first fault of a value that spells no map, and what holds of all values.
use Rattle.std.specs.Prelude.{◌≡◌, ◌⊎◌, ℕ, List, Option, Some, codes}
use Rattle.std.specs.List.{AllZip}
use Rattle.json_text.specs.Tree.{Json, array, object, member_of}
use Rattle.map_values.specs.Layers.{Layer}
use Rattle.map_values.specs.Members.{HasType}
use Rattle.plane_edge.specs.declared.frame.Frame.{Frame}
use Rattle.plane_edge.specs.declared.point.Point.{Point}
use Rattle.topo_reader.specs.Arcs.{SpellsFrame, is_relative, SpellsArc}
use Rattle.topo_reader.specs.ArcFaults.{IsArcFault}
use Rattle.topo_reader.specs.PlaceFaults.{IsPlaceFault}
use Rattle.topo_reader.specs.Rules.{UnlessSome, UnlessMemory}
use Rattle.topo_reader.specs.Topology.{IsPicked, ArePlaces, SpellsTopology}
use Rattle.topo_reader.specs.declared.fault.TopoFault.{TopoFault}
use Rattle.topo_reader.specs.declared.fault.TopoFault.TheVariants.{NotTopology, NoObject, NotPolygonal}

-- what a topology has: its objects, its arcs and its frame
pub record Head : Type 0 where
  pub objects : Json
  pub parts : List Json
  pub frame : Frame

-- the value is a topology: it has that type, an object `objects`, a list `arcs`, and a transform of the right form or none
pub record IsTopology (tree : Json) (head : Head) : Type 0 where
  pub members : List (List ℕ × Json)
  pub type_is : HasType tree (codes "Topology")
  pub objects_are : member_of tree (codes "objects") ≡ Some head.objects
  pub object_is : head.objects ≡ object members
  pub parts_are : member_of tree (codes "arcs") ≡ Some (array head.parts)
  pub frame_is : SpellsFrame tree head.frame

-- the rules of the picked object, behind these arcs
abbrev pub BreaksPicked : List (List Point) → List ℕ → Json → TopoFault → Type 0
BreaksPicked arcs class picked = UnlessSome (ArePlaces picked) (NotPolygonal 0) (λ places. IsPlaceFault arcs class places)

-- an arc breaks a rule; or none does, and the picked object breaks one
abbrev pub BreaksBody : Head → List ℕ → Json → TopoFault → Type 0
BreaksBody head class picked fault =
    IsArcFault (is_relative head.frame) head.parts fault
    ⊎ ((arcs : List (List Point)) × AllZip (SpellsArc (is_relative head.frame)) head.parts arcs × BreaksPicked arcs class picked fault)

-- the fault of the first rule that the value breaks
abbrev pub IsFirstFault : Json → List ℕ → Option (List ℕ) → TopoFault → Type 0
IsFirstFault tree class named =
    UnlessSome (IsTopology tree) NotTopology (λ head.
    UnlessSome (IsPicked head.objects named) NoObject (λ picked.
    BreaksBody head class picked))

-- the fault is the first one, unless memory ran out
abbrev pub IsFaultOf : Json → List ℕ → Option (List ℕ) → TopoFault → Type 0
IsFaultOf tree class named fault = UnlessMemory fault (IsFirstFault tree class named fault)

-- a value has one first fault at most
abbrev pub OneFault : Type 0
OneFault = (tree : Json) (class : List ℕ) (named : Option (List ℕ)) (f g : TopoFault) → IsFirstFault tree class named f → IsFirstFault tree class named g → f ≡ g

-- a value that spells a map has no fault
abbrev pub LayerWithoutFault : Type 0
LayerWithoutFault = (tree : Json) (class : List ℕ) (named : Option (List ℕ)) (l : Layer) (f : TopoFault) → SpellsTopology tree class named l → ¬ IsFirstFault tree class named f

-- each value spells a map or has a first fault
abbrev pub LayerOrFault : Type 0
LayerOrFault = (tree : Json) (class : List ℕ) (named : Option (List ℕ)) → ((l : Layer) × SpellsTopology tree class named l) ⊎ ((f : TopoFault) × IsFirstFault tree class named f)
