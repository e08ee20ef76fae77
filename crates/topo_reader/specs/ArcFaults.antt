-- The rules of arcs.
use Rattle.std.specs.Prelude.{◌≡◌, ◌⊎◌, ◌≤◌, ℕ, Bool, if◌then◌else◌, List, [], ◌∷◌, ◌++◌, length, ℤ, pos, ◌+ℤ◌}
use Rattle.std.specs.List.{AllByRecursion, AllZip}
use Rattle.json_text.specs.Tree.{Json, array}
use Rattle.map_values.specs.Positions.{BeginsWithNumbers, SpellsPosition}
use Rattle.plane_edge.specs.Coordinate.{IsCoordinate}
use Rattle.plane_edge.specs.declared.frame.Limit.TheVariants.{Coordinate}
use Rattle.plane_edge.specs.declared.point.Point.{Point}
use Rattle.topo_reader.specs.Arcs.{SpellsPoint, SpellsArc}
use Rattle.topo_reader.specs.Rules.{Unless, UnlessSome}
use Rattle.topo_reader.specs.declared.fault.TopoFault.{TopoFault}
use Rattle.topo_reader.specs.declared.fault.TopoFault.TheVariants.{BadArc, NotWhole, Limit}

abbrev pub HasNumbers : Json → Type 0
HasNumbers tree = (first second : List ℕ) × BeginsWithNumbers tree first second

abbrev pub HasWholeNumbers : Json → Type 0
HasWholeNumbers tree = (x y : ℤ) × SpellsPosition tree x y

-- a list of two or more lists that begin with two numbers each
pub record IsArc (tree : Json) (positions : List Json) : Type 0 where
  pub list : tree ≡ array positions
  pub long : 2 ≤ length positions
  pub each : AllByRecursion HasNumbers positions

-- the position, added to these coordinates, is past the limit of coordinates
pub record IsFar (x y : ℤ) (tree : Json) : Type 0 where
  pub dx : ℤ
  pub dy : ℤ
  pub position : SpellsPosition tree dx dy
  pub beyond : ¬ (IsCoordinate (x +ℤ dx) × IsCoordinate (y +ℤ dy))

-- one of the positions is past the limit, and those before it are points; each is added as in `SpellPoints`
abbrev pub HasFar : Bool → ℤ → ℤ → List Json → Type 0
HasFar relative x y [] = ⊥
HasFar relative x y (tree ∷ trees) =
    IsFar x y tree ⊎ ((p : Point) × SpellsPoint x y tree p × HasFar relative (if relative then p.x else pos 0) (if relative then p.y else pos 0) trees)

-- one of the positions is past the limit, which is the fault
abbrev pub IsPastLimit : Bool → List Json → TopoFault → Type 0
IsPastLimit relative positions fault = (fault ≡ Limit Coordinate) × HasFar relative (pos 0) (pos 0) positions

-- the rules of the arc with that number
abbrev pub BreaksArc : Bool → ℕ → Json → TopoFault → Type 0
BreaksArc relative at tree =
    UnlessSome (IsArc tree) (BadArc at) (λ positions.
    Unless (AllByRecursion HasWholeNumbers positions) (NotWhole at) (IsPastLimit relative positions))

-- one of the arcs breaks a rule, and those before it break none
pub record IsArcFault (relative : Bool) (parts : List Json) (fault : TopoFault) : Type 0 where
  pub before : List Json
  pub tree : Json
  pub after : List Json
  pub arcs : List (List Point)
  pub parts_are : parts ≡ before ++ tree ∷ after
  pub right : AllZip (SpellsArc relative) before arcs
  pub broken : BreaksArc relative (length before) tree fault
