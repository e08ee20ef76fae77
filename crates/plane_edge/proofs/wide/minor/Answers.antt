use Rattle.std.proofs.Common.{◌^◌, ◌≤◌, arith, ℤ, ◌-ℤ◌, ◌*ℤ◌, FitsSigned, unsigned_abs}
use Rattle.std.specs.Int.{w128}
use Rattle.std.proofs.lemmas.Int.{to_z-of_z}
use Rattle.whole_ring.proofs.Signs.{within}
use Rattle.whole_ring.proofs.Sizes.{abs-mul}
use Rattle.plane_edge.proofs.wide.minor.Goals as goal

fits_small : (p : ℤ) → unsigned_abs p ≤ 2 ^ 94 → FitsSigned w128 p
fits_small p h = omega (arith, within)

fits_gap : (p q : ℤ) → unsigned_abs p ≤ 2 ^ 62 → unsigned_abs q ≤ 2 ^ 62 → unsigned_abs (p -ℤ q) ≤ 2 ^ 63
fits_gap p q h k = omega (arith, within)

-- each product fits, and so does the difference
record Sizes (a b c d : ℤ) : Type 0 where
  fa : FitsSigned w128 a
  fb : FitsSigned w128 b
  fc : FitsSigned w128 c
  fd : FitsSigned w128 d
  fab : FitsSigned w128 (a *ℤ b)
  fcd : FitsSigned w128 (c *ℤ d)
  small : unsigned_abs (a *ℤ b -ℤ c *ℤ d) ≤ 2 ^ 63
  fits : FitsSigned w128 (a *ℤ b -ℤ c *ℤ d)

sizes : (a b c d : ℤ) → unsigned_abs a ≤ 2 ^ 31 → unsigned_abs b ≤ 2 ^ 31 → unsigned_abs c ≤ 2 ^ 31 → unsigned_abs d ≤ 2 ^ 31 → Sizes a b c d
sizes a b c d ha hb hc hd =
    let p = abs-mul a b (2 ^ 31) (2 ^ 31) ha hb in
    let q = abs-mul c d (2 ^ 31) (2 ^ 31) hc hd in
    let s = fits_gap (a *ℤ b) (c *ℤ d) p q in
    record {
      fa = fits_small a (omega arith);
      fb = fits_small b (omega arith);
      fc = fits_small c (omega arith);
      fd = fits_small d (omega arith);
      fab = fits_small (a *ℤ b) (omega arith);
      fcd = fits_small (c *ℤ d) (omega arith);
      small = s;
      fits = fits_small (a *ℤ b -ℤ c *ℤ d) (omega arith);
    }

pub overflow_mul-result : goal.overflow_mul-result
overflow_mul-result c =
    let s = sizes c.args.a c.args.b c.args.c c.args.d c.requires.a_within c.requires.b_within c.requires.c_within c.requires.d_within in
    simp (to_z-of_z, s.fa, s.fb) s.fab

pub overflow_mul-result-2 : goal.overflow_mul-result-2
overflow_mul-result-2 c =
    let s = sizes c.args.a c.args.b c.args.c c.args.d c.requires.a_within c.requires.b_within c.requires.c_within c.requires.d_within in
    simp (to_z-of_z, s.fc, s.fd) s.fcd

pub overflow_sub-result : goal.overflow_sub-result
overflow_sub-result c =
    let s = sizes c.args.a c.args.b c.args.c c.args.d c.requires.a_within c.requires.b_within c.requires.c_within c.requires.d_within in
    simp (to_z-of_z, s.fa, s.fb, s.fc, s.fd, s.fab, s.fcd) s.fits

pub returns : goal.returns
returns c =
    let s = sizes c.args.a c.args.b c.args.c c.args.d c.requires.a_within c.requires.b_within c.requires.c_within c.requires.d_within in
    record { value = simp (to_z-of_z, s.fa, s.fb, s.fc, s.fd, s.fab, s.fcd, s.fits); within = simp (to_z-of_z, s.fa, s.fb, s.fc, s.fd, s.fab, s.fcd, s.fits) s.small }
