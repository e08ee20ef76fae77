-- The range of a coordinate.
use Rattle.std.specs.Prelude.{ℤ, neg_ℤ, ◌≤ℤ◌}
use Rattle.agg_base.specs.declared.limits.TheConstants.{COORDINATE}

-- a coordinate is at most 1,073,741,824 from 0
pub record IsCoordinate (z : ℤ) : Type 0 where
  pub least : neg_ℤ COORDINATE ≤ℤ z
  pub most : z ≤ℤ COORDINATE
