-- A list in parts of given lengths.
use Rattle.std.specs.Prelude.{◌≡◌, ℕ, ◌<◌, ℤ, List, [], ◌∷◌, length, take, drop, get_or, slice_index}
use Rattle.plane_edge.specs.declared.point.Point.{Point}
use Rattle.arc_dissolve.specs.Drawing.{ArePolygonsOf}
use Rattle.arc_dissolve.specs.Shapes.{Shape}

-- parts of these lengths, one after another from the start of the list
abbrev pub parts : {X : Type 0} → List ℕ → List X → List (List X)
parts [] xs = []
parts (n ∷ ns) xs = take n xs ∷ parts ns (drop n xs)

-- the figure has the class's name, and polygons of these rings
pub record IsShapeOfRings (arcs : List (List Point)) (rings : List (List ℤ)) (name : List ℕ) (shape : Shape) : Type 0 where
  pub class : shape.class ≡ name
  pub polygons : ArePolygonsOf arcs rings shape.polygons

-- figures of the first n parts of the rings
pub record AreShapesOfParts (arcs : List (List Point)) (groups : List (List (List ℤ))) (classes : List ℕ) (names : List (List ℕ)) (n : ℕ) (shapes : List Shape) : Type 0 where
  pub count : length shapes ≡ n
  pub each : (r : ℕ) (shape : Shape) → r < n → IsShapeOfRings arcs (get_or groups r []) (get_or names (slice_index classes r) []) (get_or shapes r shape)
