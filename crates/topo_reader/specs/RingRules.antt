-- The rules of the rings of a geometry, behind those of its form, its place and its class.
use Rattle.std.specs.Prelude.{◌≡◌, ℕ, List}
use Rattle.std.specs.List.{AllZip}
use Rattle.json_text.specs.Tree.{Json}
use Rattle.map_values.specs.Measured.{IsMeasured, HaveManySteps}
use Rattle.plane_edge.specs.Rings.{Area}
use Rattle.plane_edge.specs.declared.frame.Limit.TheVariants.{Edges}
use Rattle.plane_edge.specs.declared.point.Point.{Point}
use Rattle.topo_reader.specs.Indexes.{ring_numbers}
use Rattle.topo_reader.specs.PlaceFaults.{AreIndexes, AreClosed}
use Rattle.topo_reader.specs.Rules.{Unless, UnlessSome}
use Rattle.topo_reader.specs.Thinned.{IsThinned}
use Rattle.topo_reader.specs.declared.fault.TopoFault.{TopoFault}
use Rattle.topo_reader.specs.declared.fault.TopoFault.TheVariants.{BadIndex, OpenRing, Limit}

-- the rings, each a list of the texts of its indexes, break one of the rules
abbrev pub BreaksRings : List (List Point) → ℕ → ℕ → List (List (List ℕ)) → TopoFault → Type 0
BreaksRings arcs at steps texts =
    Unless (AreIndexes arcs texts) (BadIndex at) (
    UnlessSome (AreClosed arcs texts) (OpenRing at) (λ points fault.
    (fault ≡ Limit Edges) × HaveManySteps points steps))

-- they keep all of them, and the area is that of the points along their arcs
pub record IsAreaOf (arcs : List (List Point)) (class : List ℕ) (steps : ℕ) (texts : List (List (List ℕ))) (area : Area) : Type 0 where
  pub points : List (List Point)
  pub indexes : AreIndexes arcs texts
  pub closed : AreClosed arcs texts points
  pub measured : IsMeasured class points steps area

-- that holds of all arcs that are thinned to these, and of the characters of the rings' numbers
abbrev pub ForRings : List (List Point) → List (List Json) → (List (List Point) → List (List (List ℕ)) → Type 0) → Type 0
ForRings thins rings P = (arcs : List (List Point)) (texts : List (List (List ℕ))) → AllZip IsThinned arcs thins → rings ≡ ring_numbers texts → P arcs texts
