-- Paths without repeated points, which have the same ends and the same steps.
use Rattle.std.specs.Prelude.{◌≡◌, ◌-◌, List, [], ◌∷◌, length}
use Rattle.std.specs.List.{AllZip}
use Rattle.plane_edge.specs.Paths.{first_of, last_of}
use Rattle.plane_edge.specs.Rings.{path_from}
use Rattle.plane_edge.specs.declared.point.Point.{Point}

-- the steps along a path
abbrev pub steps_of_path : List Point → List (Point × Point)
steps_of_path [] = []
steps_of_path (p ∷ ps) = path_from p ps

-- the path has the same ends and the same steps, and one point more than steps
pub record IsThinned (path thin : List Point) : Type 0 where
  pub first : first_of thin ≡ first_of path
  pub last : last_of thin ≡ last_of path
  pub steps : steps_of_path thin ≡ steps_of_path path
  pub count : length (steps_of_path path) ≡ length thin - 1

-- that holds of all arcs that are thinned to these
abbrev pub ForArcs : List (List Point) → (List (List Point) → Type 0) → Type 0
ForArcs thins P = (arcs : List (List Point)) → AllZip IsThinned arcs thins → P arcs
