-- The better of two offers fits.
use Rattle.std.proofs.Common.{◌≡◌, ℕ, true, false, arith, inl, inr, Option, Some, None}
use Rattle.std.specs.Prelude.{ℤ, ◌≤ℤ◌, int_lt, ◌↔◌}
use Rattle.std.proofs.lemmas.Int.{ints}
use Rattle.agg_model.specs.Problem.{Problem, IsProblem}
use Rattle.row_laws.specs.Values.{RowSum, Allowed}
use Rattle.row_laws.specs.declared.bound.Bound.{Bound}
use Rattle.row_laws.specs.declared.bound.Bound.TheVariants.{Least, Void}
use Rattle.row_laws.proofs.Tests.{by_test}
use Rattle.bound_rows.specs.Offers.{IsAtMost, IsWorth, IsValueOf, IsMet, FitsBetter, is_less, better_sum}
use Rattle.row_laws.specs.FirstSums.{plain_sum}
use Rattle.row_laws.proofs.PlainLemmas.{plain_law}

at_most-same : (b : Bound) → IsAtMost b b
at_most-same (Least x) = omega (arith, ints)
at_most-same Void = tt

less : (x y : ℤ) → int_lt x y ≡ true → x ≤ℤ y
less x y e = grind (arith, ints)

not_less : (x y : ℤ) → int_lt x y ≡ false → y ≤ℤ x
not_less x y e = grind (arith, ints)

less-at_most : (x y : Bound) → is_less x y ≡ true → IsAtMost x y
less-at_most (Least x) (Least y) e = less x y e
less-at_most (Least x) Void e = tt
less-at_most Void (Least y) e = cc
less-at_most Void Void e = tt

not_less-at_most : (x y : Bound) → is_less x y ≡ false → IsAtMost y x
not_less-at_most (Least x) (Least y) e = not_less x y e
not_less-at_most (Least x) Void e = cc
not_less-at_most Void (Least y) e = tt
not_less-at_most Void Void e = tt

-- the sum without rows is usable with every share
plain_worth : (p : Problem) (allowed : Allowed) (share : ℕ) → IsProblem p → (b : Bound) × IsWorth p allowed share plain_sum b
plain_worth p allowed share ok =
    let law = plain_law p allowed ok in (Least law.1.0, record { sound = law.0; value = law.1.1; marks = omega arith })

pub better_fits : (p : Problem) (allowed : Allowed) (share : ℕ) (f g : RowSum → Type 0) (first second : RowSum) (x y : Option Bound) → IsProblem p → f first → g second → IsValueOf p allowed share first x → IsValueOf p allowed share second y → FitsBetter p allowed share f g (better_sum first second x y)
better_fits p allowed share f g first second None None ok a b u w = ((plain_worth p allowed share ok).0, (plain_worth p allowed share ok).1, inl (first, a, u), inl (second, b, w))
better_fits p allowed share f g first second (Some x) None ok a b u w = (x, u, inr (first, x, a, u, at_most-same x), inl (second, b, w))
better_fits p allowed share f g first second None (Some y) ok a b u w = (y, w, inl (first, a, u), inr (second, y, b, w, at_most-same y))
better_fits p allowed share f g first second (Some x) (Some y) ok a b u w =
    by_test (is_less x y) _
    (λ e. rw e (y, w, inr (first, x, a, u, less-at_most x y e), inr (second, y, b, w, at_most-same y)))
    (λ e. rw e (x, u, inr (first, x, a, u, at_most-same x), inr (second, y, b, w, not_less-at_most x y e)))

met_same : (p : Problem) (allowed : Allowed) (share : ℕ) (f g : RowSum → Type 0) (b : Bound) → ((s : RowSum) → f s → g s) → IsMet p allowed share f b → IsMet p allowed share g b
met_same p allowed share f g b same (inl m) = inl (m.0, same m.0 m.1, m.2)
met_same p allowed share f g b same (inr m) = inr (m.0, m.1, same m.0 m.2, m.3, m.4)

-- relations that hold of the same sums make the same better one
pub better_same : (p : Problem) (allowed : Allowed) (share : ℕ) (f f' g g' : RowSum → Type 0) → ((s : RowSum) → f s ↔ f' s) → ((s : RowSum) → g s ↔ g' s) → (s : RowSum) → FitsBetter p allowed share f g s ↔ FitsBetter p allowed share f' g' s
better_same p allowed share f f' g g' a b s = (
  λ h. (h.0, h.1, met_same p allowed share f f' h.0 (λ r. (a r).0) h.2, met_same p allowed share g g' h.0 (λ r. (b r).0) h.3),
  λ h. (h.0, h.1, met_same p allowed share f' f h.0 (λ r. (a r).1) h.2, met_same p allowed share g' g h.0 (λ r. (b r).1) h.3),
)
