-- Areas by their rings, within the limit of steps.
use Rattle.std.specs.Prelude.{◌≡◌, ◌+◌, ◌<◌, ◌≤◌, ℕ, List, length, map, flat_map}
use Rattle.agg_base.specs.declared.limits.TheConstants.{STEPS}
use Rattle.plane_edge.specs.declared.point.Point.{Point}
use Rattle.plane_edge.specs.Rings.{Area, ends_of, steps_of_ring}

-- the area of this class whose steps are those of all rings of non-zero length, where they are within the limit together with so many before
pub record IsMeasured (class : List ℕ) (rings : List (List Point)) (before : ℕ) (area : Area) : Type 0 where
  pub class_is : area.class ≡ class
  pub steps_are : map ends_of area.steps ≡ flat_map steps_of_ring rings
  pub few : before + length area.steps ≤ STEPS

-- the steps of the rings pass the limit together with so many before
abbrev pub HaveManySteps : List (List Point) → ℕ → Type 0
HaveManySteps rings before = STEPS < before + length (flat_map steps_of_ring rings)
