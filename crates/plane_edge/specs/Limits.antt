-- The limits of a coverage.
use Rattle.std.specs.Prelude.{ℕ, ◌≤◌, List, length}
use Rattle.agg_base.specs.declared.limits.TheConstants.{AREAS, STEPS, TEXT_BYTES}
use Rattle.plane_edge.specs.Rings.{Area, step_count}

-- areas, and a number of further ones that were passed over, that a coverage may have
pub record IsWithinLimits (areas : List Area) (passed : ℕ) : Type 0 where
  pub few_areas : length areas ≤ AREAS
  pub few_steps : step_count areas ≤ STEPS
  pub few_passed : passed ≤ TEXT_BYTES
