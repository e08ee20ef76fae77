-- How large a coordinate is.
use Rattle.std.proofs.Common.{◌≤◌, ◌^◌, ℤ, unsigned_abs, arith}
use Rattle.plane_edge.specs.Coordinate.{IsCoordinate}
use Rattle.whole_ring.proofs.Signs.{within}

pub abs-coordinate : (a : ℤ) → IsCoordinate a → unsigned_abs a ≤ 2 ^ 30
abs-coordinate a h = omega (arith, within)
