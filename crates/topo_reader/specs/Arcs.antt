-- The arcs of a topology, and its frame.
use Rattle.std.specs.Prelude.{◌≡◌, ◌≤◌, ℕ, Bool, true, false, if◌then◌else◌, List, [], ◌∷◌, length, Some, None, codes, ℤ, pos, ◌+ℤ◌}
use Rattle.json_text.specs.Tree.{Json, Number, array, member_of}
use Rattle.plane_edge.specs.declared.frame.Frame.{Frame}
use Rattle.plane_edge.specs.declared.frame.Frame.TheVariants.{Plain, Scaled}
use Rattle.plane_edge.specs.declared.point.Point.{Point}
use Rattle.map_values.specs.Positions.{SpellsPosition}

-- the transform has a scale and a translate of exactly two numbers each; the frame keeps their characters
pub record SpellsTransform (transform : Json) (sx sy tx ty : List ℕ) : Type 0 where
  pub scale : member_of transform (codes "scale") ≡ Some (array (Number sx ∷ Number sy ∷ []))
  pub translate : member_of transform (codes "translate") ≡ Some (array (Number tx ∷ Number ty ∷ []))

-- the frame is `Plain` where the topology has no transform
abbrev pub SpellsFrame : Json → Frame → Type 0
SpellsFrame topology Plain = member_of topology (codes "transform") ≡ None
SpellsFrame topology (Scaled sx sy tx ty) = (transform : Json) × (member_of topology (codes "transform") ≡ Some transform) × SpellsTransform transform sx sy tx ty

-- with a transform each position but the first of an arc is told relative to the one before
abbrev pub is_relative : Frame → Bool
is_relative Plain = false
is_relative (Scaled sx sy tx ty) = true

-- the position, added to these coordinates, is the point
pub record SpellsPoint (x y : ℤ) (tree : Json) (p : Point) : Type 0 where
  pub dx : ℤ
  pub dy : ℤ
  pub position : SpellsPosition tree dx dy
  pub x_is : p.x ≡ x +ℤ dx
  pub y_is : p.y ≡ y +ℤ dy

-- the points of the positions, of which the first is added to these coordinates; each further one is added to the point before where they are relative, else to the origin
abbrev pub SpellPoints : Bool → ℤ → ℤ → List Json → List Point → Type 0
SpellPoints relative x y [] [] = Unit {0}
SpellPoints relative x y [] (p ∷ ps) = ⊥
SpellPoints relative x y (tree ∷ trees) [] = ⊥
SpellPoints relative x y (tree ∷ trees) (p ∷ ps) =
    SpellsPoint x y tree p × SpellPoints relative (if relative then p.x else pos 0) (if relative then p.y else pos 0) trees ps

-- a list of two positions or more
pub record SpellsArc (relative : Bool) (tree : Json) (arc : List Point) : Type 0 where
  pub positions : List Json
  pub list : tree ≡ array positions
  pub long : 2 ≤ length positions
  pub points : SpellPoints relative (pos 0) (pos 0) positions arc
