-- A spot on an edge is bounded where its denominator is.
use Rattle.std.proofs.Common.{ℕ, ◌^◌, ◌≤◌, arith, ℤ, pos, ◌*ℤ◌, ◌≤ℤ◌, unsigned_abs}
use Rattle.std.specs.Int.{int_min, int_max}
use Rattle.std.proofs.lemmas.Int.{clamps}
use Rattle.plane_edge.specs.declared.edge.Edge.{Edge}
use Rattle.plane_edge.specs.declared.spot.Spot.{Spot}
use Rattle.plane_edge.specs.Coordinate.{IsCoordinate}
use Rattle.plane_edge.specs.Plane.{IsBounded, IsMeeting}
use Rattle.whole_ring.proofs.Signs.{lin, within}
use Rattle.whole_ring.proofs.Sizes.{abs-mul}

-- a coordinate times a denominator
scaled_size : (a m : ℤ) → IsCoordinate a → unsigned_abs m ≤ 2 ^ 63 → unsigned_abs (a *ℤ m) ≤ 2 ^ 93
scaled_size a m h k = abs-mul a m (2 ^ 30) (2 ^ 63) (omega (arith, within, h.least, h.most)) k

between_size : (a b v : ℤ) (k : ℕ) → unsigned_abs a ≤ k → unsigned_abs b ≤ k → a ≤ℤ v → v ≤ℤ b → unsigned_abs v ≤ k
between_size a b v k ha hb h j = omega (arith, within)

across_size : (a b v : ℤ) (k : ℕ) → unsigned_abs a ≤ k → unsigned_abs b ≤ k → int_min a b ≤ℤ v → v ≤ℤ int_max a b → unsigned_abs v ≤ k
across_size a b v k ha hb h j = omega (arith, within, clamps)

pub bounded_meeting : (e f : Edge) (s : Spot) → IsMeeting e f s → unsigned_abs s.m ≤ 2 ^ 63 → IsBounded s
bounded_meeting e f s h k = record {
  real = omega (arith, lin, h.real);
  fine = k;
  x_within = across_size (e.low.x *ℤ s.m) (e.high.x *ℤ s.m) s.x (2 ^ 93) (scaled_size e.low.x s.m e.low.x_in_range k) (scaled_size e.high.x s.m e.high.x_in_range k) h.on_e.from_left h.on_e.to_right;
  y_within = between_size (e.low.y *ℤ s.m) (e.high.y *ℤ s.m) s.y (2 ^ 93) (scaled_size e.low.y s.m e.low.y_in_range k) (scaled_size e.high.y s.m e.high.y_in_range k) h.on_e.from_low h.on_e.to_high;
}

pub whole_fine : unsigned_abs (pos 1) ≤ 2 ^ 63
whole_fine = omega arith
