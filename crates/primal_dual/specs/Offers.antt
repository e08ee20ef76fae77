-- Which sums may be offered.
use Rattle.std.specs.Prelude.{ℕ, ◌-◌, ◌^◌, ◌≤◌, min}
use Rattle.agg_model.specs.Problem.{Problem}
use Rattle.row_laws.specs.Values.{RowSum, IsSoundSum, mark_count}

-- the sum is sound, and has at most the share of marks
pub record IsWithin (p : Problem) (share : ℕ) (s : RowSum) : Type 0 where
  pub sound : IsSoundSum p s
  pub few : min (mark_count s.rows) (2 ^ 64 - 1) ≤ share
