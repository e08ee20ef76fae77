use Rattle.std.proofs.Common.{◌≡◌, ℕ, arith, ap, ℤ, pos, negsuc, suc, neg_ℤ, ◌*ℤ◌, ◌<ℤ◌, FitsSigned, unsigned_abs, int_div, int_rem, to_z, ◌%◌}
use Prim.Native.Nat.{◌∣◌}
use Rattle.std.specs.Int.{w128}
use Rattle.std.proofs.lemmas.Int.{to_z-of_z, to_z_pos, quot-rem, quot_fits}
use Rattle.std.proofs.lemmas.Nat.Gcd.{mod-eq-zero_of_dvd}
use Rattle.whole_ring.proofs.Signs.{lin}
use Rattle.whole_ring.proofs.divide.quotient.Goals as goal

no_rest : (v : ℤ) (k : ℕ) → k ∣ unsigned_abs v → int_rem v (pos k) ≡ pos 0
no_rest (pos n) k d = ap pos (mod-eq-zero_of_dvd k d)
no_rest (negsuc n) k d = let z : suc n % k ≡ 0 = mod-eq-zero_of_dvd k d in ap (λ r. neg_ℤ (pos r)) z

exact : (v : ℤ) (k : ℕ) → k ∣ unsigned_abs v → int_div v (pos k) *ℤ pos k ≡ v
exact v k d = let z = no_rest v k d in omega (arith, lin, quot-rem v (pos k))

pub returns : goal.returns
returns c =
    let f : FitsSigned w128 c.args.value = c.ranges.value in
    let e : to_z w128 c.args.by ≡ pos c.args.by = to_z_pos w128 c.args.by (omega arith) in
    let above : pos 0 <ℤ pos c.args.by = omega (arith, lin) in
    let q : FitsSigned w128 (int_div c.args.value (pos c.args.by)) = quot_fits w128 c.args.value (pos c.args.by) f above in
    simp (e, to_z-of_z) (exact c.args.value c.args.by c.requires.divides)
