use Rattle.std.proofs.Common.{◌^◌, ◌≤◌, arith, lit<, ℤ, ◌+ℤ◌, ◌*ℤ◌, FitsSigned, unsigned_abs}
use Rattle.std.specs.Int.{w128}
use Rattle.std.proofs.lemmas.Int.{to_z-of_z, fits_signed_mul}
use Rattle.whole_ring.proofs.Signs.{within}
use Rattle.whole_ring.proofs.Sizes.{abs-mul}
use Rattle.plane_edge.proofs.wide.sum_of_products.Goals as goal

pub overflow_mul-result : goal.overflow_mul-result
overflow_mul-result c =
    let fa : FitsSigned w128 c.args.a = c.ranges.a in let fb : FitsSigned w128 c.args.b = c.ranges.b in
    simp to_z-of_z (fits_signed_mul w128 c.args.a c.args.b (2 ^ 94) (2 ^ 31) c.requires.a_within c.requires.b_within (lit< tt))

pub overflow_mul-result-2 : goal.overflow_mul-result-2
overflow_mul-result-2 c =
    let fc : FitsSigned w128 c.args.c = c.ranges.c in let fd : FitsSigned w128 c.args.d = c.ranges.d in
    simp to_z-of_z (fits_signed_mul w128 c.args.c c.args.d (2 ^ 31) (2 ^ 94) c.requires.c_within c.requires.d_within (lit< tt))

fits_sum : (p q : ℤ) → unsigned_abs p ≤ 2 ^ 125 → unsigned_abs q ≤ 2 ^ 125 → FitsSigned w128 (p +ℤ q)
fits_sum p q h k = omega (arith, within)

small_sum : (p q : ℤ) → unsigned_abs p ≤ 2 ^ 125 → unsigned_abs q ≤ 2 ^ 125 → unsigned_abs (p +ℤ q) ≤ 2 ^ 126
small_sum p q h k = omega (arith, within)

pub overflow_add-result : goal.overflow_add-result
overflow_add-result c =
    let fa : FitsSigned w128 c.args.a = c.ranges.a in let fb : FitsSigned w128 c.args.b = c.ranges.b in
    let fc : FitsSigned w128 c.args.c = c.ranges.c in let fd : FitsSigned w128 c.args.d = c.ranges.d in
    let fab = fits_signed_mul w128 c.args.a c.args.b (2 ^ 94) (2 ^ 31) c.requires.a_within c.requires.b_within (lit< tt) in
    let fcd = fits_signed_mul w128 c.args.c c.args.d (2 ^ 31) (2 ^ 94) c.requires.c_within c.requires.d_within (lit< tt) in
    simp to_z-of_z (fits_sum (c.args.a *ℤ c.args.b) (c.args.c *ℤ c.args.d) (abs-mul c.args.a c.args.b (2 ^ 94) (2 ^ 31) c.requires.a_within c.requires.b_within) (abs-mul c.args.c c.args.d (2 ^ 31) (2 ^ 94) c.requires.c_within c.requires.d_within))

pub returns : goal.returns
returns c =
    let fa : FitsSigned w128 c.args.a = c.ranges.a in let fb : FitsSigned w128 c.args.b = c.ranges.b in
    let fc : FitsSigned w128 c.args.c = c.ranges.c in let fd : FitsSigned w128 c.args.d = c.ranges.d in
    let fab = fits_signed_mul w128 c.args.a c.args.b (2 ^ 94) (2 ^ 31) c.requires.a_within c.requires.b_within (lit< tt) in
    let fcd = fits_signed_mul w128 c.args.c c.args.d (2 ^ 31) (2 ^ 94) c.requires.c_within c.requires.d_within (lit< tt) in
    let ab = abs-mul c.args.a c.args.b (2 ^ 94) (2 ^ 31) c.requires.a_within c.requires.b_within in
    let cd = abs-mul c.args.c c.args.d (2 ^ 31) (2 ^ 94) c.requires.c_within c.requires.d_within in
    let fs = fits_sum (c.args.a *ℤ c.args.b) (c.args.c *ℤ c.args.d) ab cd in
    record { value = simp to_z-of_z; within = simp to_z-of_z (small_sum (c.args.a *ℤ c.args.b) (c.args.c *ℤ c.args.d) ab cd) }
