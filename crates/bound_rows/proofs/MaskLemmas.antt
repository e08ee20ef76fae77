-- What a write of a set of classes leaves.
use Rattle.std.proofs.Common.{◌≡◌, ℕ, ◌*◌, ◌/◌, ◌%◌, ◌^◌, ◌<◌, ◌≢◌, Bool, true, false, List, length, get_or, set, refl, ap, sym, ◌∙◌, arith, subst, inl, inr, get_or-set_same, get_or-set_other}
use Rattle.std.specs.Prelude.{◌==◌, not, ◌&&◌, bit_and, IsTrue, ◌↔◌}
use Rattle.row_laws.specs.Fixed.{IsSingle}
use Rattle.std.specs.Int.{bit_at, bit_not, w64, trailing_zeros}
use Rattle.std.proofs.lemmas.Bool.Decides.{Decides-eqb}
use Rattle.std.proofs.lemmas.Bool.{cases_lt}
use Rattle.std.proofs.lemmas.Grind.{common_steps}
use Rattle.std.proofs.lemmas.Nat.{one_shl, and_le_l, pow_below}
use Rattle.std.proofs.lemmas.Nat.Bits.{bit_at-pow_same, bit_at-pow_other, bit_at_clear_same, bit_at_clear_other, bit_at_above, bit_at-trailing_zeros, same_from_bits_below, bit_at-lt}
use Rattle.row_laws.proofs.Tests.{by_test, clash}
use mathlib.Core.Path.{fun_ext}
use Rattle.bound_rows.specs.Domains.{allows}
use Rattle.row_laws.specs.Trees.{only, without}

apart : (a b : ℕ) → (a == b) ≡ false → a ≢ b
apart a b e s = clash (sym e ∙ (Decides-eqb a b).1 s)

and_false : (b : Bool) → b && false ≡ false
and_false true = refl
and_false false = refl

and_true : (b : Bool) → b && true ≡ b
and_true true = refl
and_true false = refl

-- a set of one class
one_class : (k j : ℕ) → (2 ^ k / 2 ^ j % 2 == 1) ≡ (j == k)
one_class k j =
    by_test (j == k) _
    (λ s.
    let e : j ≡ k = (Decides-eqb j k).0 s in
    let bit = bit_at-pow_same k in
    rw s (ap (λ i. 2 ^ k / 2 ^ i % 2 == 1) e ∙ ap (λ n. n == 1) bit))
    (λ s.
    let bit = bit_at-pow_other k j (apart j k s) in
    rw s (ap (λ n. n == 1) bit))

only_at : (sets : List ℕ) (v k : ℕ) → v < length sets → k < 64 → (u j : ℕ) → allows (set sets v (1 * 2 ^ k % 2 ^ 64)) u j ≡ only (allows sets) v k u j
only_at sets v k h q u j =
    by_test (u == v) _
    (λ s.
    let e : u ≡ v = (Decides-eqb u v).0 s in
    let here : get_or (set sets v (1 * 2 ^ k % 2 ^ 64)) u 0 ≡ 2 ^ k =
    subst (λ (i : ℕ). get_or (set sets v (1 * 2 ^ k % 2 ^ 64)) i 0 ≡ 2 ^ k) (sym e) (rw get_or-set_same (one_shl k 64 q)) in
    rw s (ap (λ n. n / 2 ^ j % 2 == 1) here ∙ one_class k j))
    (λ s.
    let ne : u ≢ v = apart u v s in
    rw s (rw get_or-set_other refl))

-- a set less one class
pub less_class : (n k j : ℕ) → n < 2 ^ 64 → k < 64 → (bit_and n (bit_not w64 (1 * 2 ^ k % 2 ^ 64)) / 2 ^ j % 2 == 1) ≡ ((n / 2 ^ j % 2 == 1) && not (j == k))
less_class n k j h q =
    by_test (j == k) _
    (λ s.
    let e : j ≡ k = (Decides-eqb j k).0 s in
    let bit = bit_at_clear_same w64 n k q in
    rw s (ap (λ i. bit_and n (bit_not w64 (1 * 2 ^ k % 2 ^ 64)) / 2 ^ i % 2 == 1) e ∙ (ap (λ m. m == 1) bit ∙ sym (and_false (n / 2 ^ j % 2 == 1)))))
    (λ s. rw s (elim (cases_lt j 64) [
      | inl small ↦ ap (λ m. m == 1) (bit_at_clear_other w64 n k q j small (apart j k s)) ∙ sym (and_true _)
      | inr large ↦ (
          let smaller = and_le_l n (bit_not w64 (1 * 2 ^ k % 2 ^ 64)) in
          ap (λ m. m == 1) (bit_at_above _ 64 j (omega (arith, smaller)) large ∙ sym (bit_at_above n 64 j h large)) ∙ sym (and_true _))
    ]))

without_at : (sets : List ℕ) (v k n w : ℕ) → v < length sets → n ≡ get_or sets v n → ((j : ℕ) → (w / 2 ^ j % 2 == 1) ≡ ((n / 2 ^ j % 2 == 1) && not (j == k))) → (u j : ℕ) → allows (set sets v w) u j ≡ without (allows sets) v k u j
without_at sets v k n w h is bits u j =
    by_test (u == v) _
    (λ s.
    let e : u ≡ v = (Decides-eqb u v).0 s in
    let here : get_or (set sets v w) u 0 ≡ w =
    subst (λ (i : ℕ). get_or (set sets v w) i 0 ≡ w) (sym e) (rw get_or-set_same refl) in
    let was : n ≡ get_or sets u 0 = is ∙ (grind (arith, common_steps)) in
    rw s (ap (λ n. n / 2 ^ j % 2 == 1) here ∙ (bits j ∙ ap (λ n. (n / 2 ^ j % 2 == 1) && not (j == k)) was)))
    (λ s.
    let ne : u ≢ v = apart u v s in
    rw s (rw get_or-set_other refl))

pub only_written : (sets : List ℕ) (v k : ℕ) → v < length sets → k < 64 → allows (set sets v (1 * 2 ^ k % 2 ^ 64)) ≡ only (allows sets) v k
only_written sets v k h q = fun_ext (λ u. fun_ext (λ j. only_at sets v k h q u j))

pub without_written : (sets : List ℕ) (v k n w : ℕ) → v < length sets → n ≡ get_or sets v n → ((j : ℕ) → (w / 2 ^ j % 2 == 1) ≡ ((n / 2 ^ j % 2 == 1) && not (j == k))) → allows (set sets v w) ≡ without (allows sets) v k
without_written sets v k n w h is bits = fun_ext (λ u. fun_ext (λ j. without_at sets v k n w h is bits u j))

-- a set that is the power of its least class has that class alone
pub single_law : (n : ℕ) → 0 < n → n < 2 ^ 64 → IsTrue (n == 1 * 2 ^ trailing_zeros w64 n % 2 ^ 64) ↔ IsSingle (λ k. n / 2 ^ k % 2 == 1) 64
single_law n some fits =
    let low = bit_at-trailing_zeros w64 n some fits in
    let shift = one_shl (trailing_zeros w64 n) 64 low.0 in (
      λ e.
          let is : n ≡ 2 ^ trailing_zeros w64 n = (Decides-eqb n (1 * 2 ^ trailing_zeros w64 n % 2 ^ 64)).0 e ∙ shift in
          (trailing_zeros w64 n, low.0, ap (λ b. b == 1) low.1, λ j hj t. alone j (trailing_zeros w64 n) is t),
      λ single.
          (Decides-eqb n (1 * 2 ^ trailing_zeros w64 n % 2 ^ 64)).1 (same_from_bits_below 64 n (2 ^ trailing_zeros w64 n) fits (power_fits low.0) (λ i hi. same single low i hi) ∙ sym shift),
    )
  where
    bit_of : (m j : ℕ) → (m / 2 ^ j % 2 == 1) ≡ true → bit_at m j ≡ 1
    bit_of m j t = (Decides-eqb (bit_at m j) 1).0 t

    power_fits : trailing_zeros w64 n < 64 → 2 ^ trailing_zeros w64 n < 2 ^ 64
    power_fits h = pow_below (trailing_zeros w64 n) 64 h

    alone : (j t : ℕ) → n ≡ 2 ^ t → (n / 2 ^ j % 2 == 1) ≡ true → j ≡ t
    alone j t is b =
        by_test (j == t) _
        (λ s. (Decides-eqb j t).0 s)
        (λ s.
        let none : bit_at n j ≡ 0 = ap (λ m. bit_at m j) is ∙ bit_at-pow_other t j (apart j t s) in
        let one = bit_of n j b in
        absurd (omega (arith, none, one)))

    same : IsSingle (λ k. n / 2 ^ k % 2 == 1) 64 → (trailing_zeros w64 n < 64) × (bit_at n (trailing_zeros w64 n) ≡ 1) × ((i : ℕ) → i < trailing_zeros w64 n → bit_at n i ≡ 0) → (i : ℕ) → i < 64 → bit_at n i ≡ bit_at (2 ^ trailing_zeros w64 n) i
    same single low i hi =
        let is : trailing_zeros w64 n ≡ single.0 = single.3 (trailing_zeros w64 n) low.0 (ap (λ b. b == 1) low.1) in
        by_test (i == trailing_zeros w64 n) _
        (λ s.
        let e : i ≡ trailing_zeros w64 n = (Decides-eqb i (trailing_zeros w64 n)).0 s in
        ap (bit_at n) e ∙ (low.1 ∙ (sym (bit_at-pow_same (trailing_zeros w64 n)) ∙ ap (bit_at (2 ^ trailing_zeros w64 n)) (sym e))))
        (λ s.
        let ne : i ≢ trailing_zeros w64 n = apart i (trailing_zeros w64 n) s in
        by_test (n / 2 ^ i % 2 == 1) _
        (λ t. absurd (ne (single.3 i hi t ∙ sym is)))
        (λ t.
        let small = bit_at-lt n i in
        let not_one : bit_at n i ≢ 1 = apart (bit_at n i) 1 t in
        let zero_bit : bit_at n i ≡ 0 = omega arith in
        zero_bit ∙ sym (bit_at-pow_other (trailing_zeros w64 n) i ne)))
