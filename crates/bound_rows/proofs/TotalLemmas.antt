-- Sums that are added up term by term, as far as they fit.
use Rattle.std.proofs.Common.{◌≡◌, ℕ, zero, suc, ◌+◌, ◌^◌, ◌<◌, ◌≤◌, true, false, refl, ap, sym, ◌∙◌, arith, subst, inl, inr, Ok, Err, add-one}
use Rattle.std.specs.Prelude.{ℤ, pos, negsuc, ◌+ℤ◌, ◌-ℤ◌, ◌≤ℤ◌, ◌<ℤ◌, FitsSigned, int_div}
use Rattle.std.specs.Int.{w128}
use Rattle.std.proofs.Math.Nat.{zero-div}
use Rattle.row_laws.specs.Values.{over}
use Rattle.std.proofs.lemmas.Int.{ints}
use Rattle.std.proofs.lemmas.Bool.Decides.{nat_tests}
use Rattle.std.proofs.lemmas.Bool.{cases_lt}
use Rattle.row_laws.specs.Exact.{is_in_128, add_up, add_term}
use Rattle.row_laws.specs.declared.bound.Entry.{Entry}
use Rattle.row_laws.proofs.Tests.{by_test}

pub fits_is : (x : ℤ) → FitsSigned w128 x → is_in_128 x ≡ true
fits_is (pos n) h = let q : n < 2 ^ 127 = omega (arith, ints) in grind (arith, nat_tests)
fits_is (negsuc n) h = let q : n < 2 ^ 127 = omega (arith, ints) in grind (arith, nat_tests)

pub is_fits : (x : ℤ) → is_in_128 x ≡ true → FitsSigned w128 x
is_fits (pos n) h = let q : n < 2 ^ 127 = grind (arith, nat_tests) in omega (arith, ints)
is_fits (negsuc n) h = let q : n < 2 ^ 127 = grind (arith, nat_tests) in omega (arith, ints)

pub not_fits : (x : ℤ) → (FitsSigned w128 x → ⊥) → is_in_128 x ≡ false
not_fits x h = by_test (is_in_128 x) _ (λ t. absurd (h (is_fits x t))) (λ t. t)

next_term : (name : ℕ → Entry) (f : ℕ → ℤ) (t : ℤ) (n : ℕ) (total x : ℤ) → Ok total ≡ add_up name f t n → x ≡ f n → add_up name f t (suc n) ≡ add_term (name n) x (Ok total)
next_term name f t n total x was is =
    ap (λ r. add_term (name n) (f n) r) (sym was) ∙ ap (λ y. add_term (name n) y (Ok total)) (sym is)

pub add_next : (name : ℕ → Entry) (f : ℕ → ℤ) (t : ℤ) (n : ℕ) (total x : ℤ) → Ok total ≡ add_up name f t n → x ≡ f n → FitsSigned w128 (total +ℤ x) → Ok (total +ℤ x) ≡ add_up name f t (n + 1)
add_next name f t n total x was is fits =
    rw add-one (sym (next_term name f t n total x was is ∙ within))
  where
    within : add_term (name n) x (Ok total) ≡ Ok (total +ℤ x)
    within = rw (fits_is (total +ℤ x) fits) refl

ended : (name : ℕ → Entry) (f : ℕ → ℤ) (t : ℤ) (n m : ℕ) (e : Entry) → add_up name f t n ≡ Err e → n ≤ m → add_up name f t m ≡ Err e
ended name f t n zero e h q =
    let is : n ≡ 0 = omega arith in
    subst (λ (x : ℕ). add_up name f t x ≡ Err e) is h
ended name f t n (suc m) e h q =
    elim (cases_lt m n) [
      | inl below ↦
          (let is : n ≡ suc m = omega arith in
          subst (λ (x : ℕ). add_up name f t x ≡ Err e) is h)
      | inr above ↦ ap (λ r. add_term (name m) (f m) r) (ended name f t n m e h above)
    ]

-- the first sum that does not fit is the answer
pub add_stop : (name : ℕ → Entry) (f : ℕ → ℤ) (t : ℤ) (n m : ℕ) (total x : ℤ) → Ok total ≡ add_up name f t n → x ≡ f n → (FitsSigned w128 (total +ℤ x) → ⊥) → n < m → Err (name n) ≡ add_up name f t m
add_stop name f t n m total x was is wide q =
    sym (ended name f t (suc n) m (name n) (next_term name f t n total x was is ∙ past) (omega arith))
  where
    past : add_term (name n) x (Ok total) ≡ Err (name n)
    past = rw (not_fits (total +ℤ x) wide) refl

-- the end of the loop
pub add_end : (name : ℕ → Entry) (f : ℕ → ℤ) (t : ℤ) (n m : ℕ) (total : ℤ) → Ok total ≡ add_up name f t n → n ≡ m → Ok total ≡ add_up name f t m
add_end name f t n m total was e = was ∙ ap (λ x. add_up name f t x) e

-- ---- rounding up

pub round_above : (t : ℤ) (q : ℕ) → pos 0 <ℤ t → int_div (t -ℤ pos 1) (pos q) +ℤ pos 1 ≡ over t q
round_above (pos zero) q h = absurd (omega (arith, ints))
round_above (pos (suc n)) q h =
    let e : pos (suc n) -ℤ pos 1 ≡ pos n = omega (arith, ints) in
    rw e (omega (arith, ints))
round_above (negsuc n) q h = absurd (omega (arith, ints))

pub round_below : (t : ℤ) (q : ℕ) → t ≤ℤ pos 0 → int_div t (pos q) ≡ over t q
round_below (pos zero) q h = rw (zero-div q) refl
round_below (pos (suc n)) q h = absurd (omega (arith, ints))
round_below (negsuc n) q h = refl
