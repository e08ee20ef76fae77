-- Laws of sums below a bound.
use Rattle.std.proofs.Common.{◌≡◌, ℕ, zero, suc, ◌<◌, ◌≤◌, ◌≢◌, Bool, true, false, eqb, refl, ap, sym, ◌∙◌, arith}
use Rattle.std.specs.Prelude.{ℤ, pos, ◌+ℤ◌}
use Rattle.std.proofs.lemmas.Int.{ints}
use Rattle.std.proofs.lemmas.Bool.Decides.{nat_tests, Decides-eqb}
use Rattle.whole_ring.specs.Sums.{sum_below, when}

by_cases_of : (b : Bool) (P : Type 0) → (b ≡ true → P) → (b ≡ false → P) → P
by_cases_of true P f g = f refl
by_cases_of false P f g = g refl

false_true : {P : Type 0} → false ≡ true → P
false_true h = cc

pub sum_below-add : (n : ℕ) (f g : ℕ → ℤ) → sum_below n (λ i. f i +ℤ g i) ≡ sum_below n f +ℤ sum_below n g
sum_below-add zero f g = refl
sum_below-add (suc n) f g = omega (arith, ints, sum_below-add n f g)

pub sum_below-none : (n : ℕ) → sum_below n (λ _. pos 0) ≡ pos 0
sum_below-none zero = refl
sum_below-none (suc n) = omega (arith, ints, sum_below-none n)

when-none : (x : ℤ) → when false x ≡ pos 0
when-none x = refl

-- a sum that has one term alone
pub sum_below-point_past : (n u : ℕ) (f : ℕ → ℤ) → n ≤ u → sum_below n (λ v. when (eqb u v) (f v)) ≡ pos 0
sum_below-point_past zero u f h = refl
sum_below-point_past (suc n) u f h =
    let apart : eqb u n ≡ false = grind (arith, nat_tests) in
    rw apart (omega (arith, ints, sum_below-point_past n u f (omega arith)))

pub sum_below-point : (n u : ℕ) (f : ℕ → ℤ) → u < n → sum_below n (λ v. when (eqb u v) (f v)) ≡ f u
sum_below-point zero u f h = absurd (omega arith)
sum_below-point (suc n) u f h =
    by_cases_of (eqb u n) _
    (λ e.
    let same : u ≡ n = (Decides-eqb u n).0 e in
    rw (e, sum_below-point_past n u f (omega arith)) (omega (arith, ints, ap f same)))
    (λ e.
    let apart : u ≢ n = λ s. false_true (sym e ∙ (Decides-eqb u n).1 s) in
    rw (e, sum_below-point n u f (omega arith)) (omega (arith, ints)))
