-- What a checked map tells and keeps.
use Rattle.std.specs.Prelude.{ℕ, ◌≤◌, List, All, length}
use Rattle.agg_base.specs.declared.limits.TheConstants.{AREAS, STEPS}
use Rattle.plane_edge.specs.declared.frame.Frame.{Frame}
use Rattle.coverage_check.specs.Cover.{IsPlanarCover, IsDisjointCover}
use Rattle.coverage_check.specs.Kept.{OddArea, odds_of, odd_edge_count}
use Rattle.coverage_check.specs.Parts.{IsOddPart}

-- a checked map: the areas with their odd edges, how many areas were passed over, and the frame
pub record Checked : Type 0 where
  pub areas : List OddArea
  pub passed : ℕ
  pub frame : Frame

-- what a checked map keeps
pub record IsChecked (areas : List OddArea) : Type 0 where
  pub planar : IsPlanarCover (odds_of areas)
  pub disjoint : IsDisjointCover (odds_of areas)
  pub parts : All IsOddPart areas
  pub few_areas : length areas ≤ AREAS
  pub few_edges : odd_edge_count areas ≤ STEPS
