-- The first of two ranks.
use Rattle.std.proofs.Common.{◌≡◌, Bool, true, false, refl, sym, ◌∙◌, ap, subst, arith}
use Rattle.std.specs.Prelude.{ℤ, ◌≤ℤ◌, int_lt, int_le, not, ◌&&◌, if◌then◌else◌}
use Rattle.std.proofs.lemmas.Int.{ints}
use Rattle.row_laws.specs.declared.bound.Bound.{Bound}
use Rattle.row_laws.specs.declared.bound.Bound.TheVariants.{Least, Void}
use Rattle.row_laws.specs.Trees.{lesser_bound}
use Rattle.row_laws.proofs.Tests.{by_test, clash}
use Rattle.bound_rows.specs.Offers.{IsAtMost, is_less}
use Rattle.branch_bound.specs.declared.tips.Rank.{Rank}
use Rattle.branch_bound.specs.Tips.{is_before, first_rank}

-- ---- bounds

pub at_most_same : (b : Bound) → IsAtMost b b
at_most_same (Least x) = omega (arith, ints)
at_most_same Void = tt

-- two bounds that are at most one another are the same
pub at_most_both : (a b : Bound) → IsAtMost a b → IsAtMost b a → a ≡ b
at_most_both (Least x) (Least y) h k =
    let same : x ≡ y = omega (arith, ints) in
    ap Least same
at_most_both (Least x) Void h k = absurd k
at_most_both Void (Least y) h k = absurd h
at_most_both Void Void h k = refl

not_less_itself : (b : Bound) → is_less b b ≡ false
not_less_itself (Least x) = grind (arith, ints)
not_less_itself Void = refl

-- the lesser bound is at most either
pub lesser_first : (a b : Bound) → IsAtMost (lesser_bound a b) a
lesser_first (Least x) (Least y) =
    by_test (int_le x y) _
    (λ e. rw e (let h : x ≤ℤ x = omega (arith, ints) in h))
    (λ e. rw e (let h : y ≤ℤ x = grind (arith, ints) in h))
lesser_first (Least x) Void = omega (arith, ints)
lesser_first Void (Least y) = tt
lesser_first Void Void = tt

pub lesser_second : (a b : Bound) → IsAtMost (lesser_bound a b) b
lesser_second (Least x) (Least y) =
    by_test (int_le x y) _
    (λ e. rw e (let h : x ≤ℤ y = grind (arith, ints) in h))
    (λ e. rw e (let h : y ≤ℤ y = omega (arith, ints) in h))
lesser_second (Least x) Void = tt
lesser_second Void (Least y) = omega (arith, ints)
lesser_second Void Void = tt

pub at_most_along : (a b c : Bound) → IsAtMost a b → IsAtMost b c → IsAtMost a c
at_most_along (Least x) (Least y) (Least z) h k = omega (arith, ints)
at_most_along (Least x) (Least y) Void h k = tt
at_most_along (Least x) Void (Least z) h k = absurd k
at_most_along (Least x) Void Void h k = tt
at_most_along Void (Least y) c h k = absurd h
at_most_along Void Void (Least z) h k = absurd k
at_most_along Void Void Void h k = tt

-- ---- ranks

abbrev pub ranked : Bound → Bool → Rank
ranked b closed = record { bound = b; is_closed = closed }

pub first_second : (x y : Rank) → is_before y x ≡ true → first_rank x y ≡ y
first_second x y e = rw e refl

pub first_stays : (x y : Rank) → is_before y x ≡ false → first_rank x y ≡ x
first_stays x y e = rw e refl

-- where neither bound is less, the first is first unless it alone is closed
pub tied : (a b : Bound) (p q : Bool) → is_less b a ≡ false → is_less a b ≡ false → is_before (ranked b q) (ranked a p) ≡ not q && p
unfolding is_before
tied a b p q e f = rw (e, f) refl

pub before_less : (a b : Bound) (p q : Bool) → is_less b a ≡ true → is_before (ranked b q) (ranked a p) ≡ true
unfolding is_before
before_less a b p q e = rw e refl

pub after_less : (a b : Bound) (p q : Bool) → is_less b a ≡ false → is_less a b ≡ true → is_before (ranked b q) (ranked a p) ≡ false
unfolding is_before
after_less a b p q e f = rw (e, f) refl

-- neither bound is less than the other
not_less_same : (a b : Bound) → is_less b a ≡ false → is_less a b ≡ false → a ≡ b
not_less_same (Least x) (Least y) e f =
    let same : x ≡ y = at x y e f in
    ap Least same
  where
    at : (x y : ℤ) → int_lt y x ≡ false → int_lt x y ≡ false → x ≡ y
    at x y e f =
        let low : x ≤ℤ y = grind (arith, ints) in
        let high : y ≤ℤ x = grind (arith, ints) in
        omega (arith, ints)
not_less_same (Least x) Void e f = cc
not_less_same Void (Least y) e f = cc
not_less_same Void Void e f = refl

lesser_itself : (b : Bound) → lesser_bound b b ≡ b
lesser_itself (Least x) = by_test (int_le x x) _ (λ e. rw e refl) (λ e. rw e refl)
lesser_itself Void = refl

lesser_of_less : (a b : Bound) → is_less b a ≡ true → lesser_bound a b ≡ b
lesser_of_less (Least x) (Least y) e =
    let f : int_le x y ≡ false = at x y e in
    rw f refl
  where
    at : (x y : ℤ) → int_lt y x ≡ true → int_le x y ≡ false
    at x y e = grind (arith, ints)
lesser_of_less (Least x) Void e = cc
lesser_of_less Void (Least y) e = refl
lesser_of_less Void Void e = refl

lesser_of_more : (a b : Bound) → is_less a b ≡ true → lesser_bound a b ≡ a
lesser_of_more (Least x) (Least y) e =
    let f : int_le x y ≡ true = at x y e in
    rw f refl
  where
    at : (x y : ℤ) → int_lt x y ≡ true → int_le x y ≡ true
    at x y e = grind (arith, ints)
lesser_of_more (Least x) Void e = refl
lesser_of_more Void (Least y) e = cc
lesser_of_more Void Void e = refl

picked_bound : (t : Bool) (b : Bound) (p q : Bool) → (if t then ranked b q else ranked b p).bound ≡ b
picked_bound true b p q = refl
picked_bound false b p q = refl

-- the bound of the first rank is the lesser one
pub first_bound : (a b : Bound) (p q : Bool) → (first_rank (ranked a p) (ranked b q)).bound ≡ lesser_bound a b
first_bound a b p q =
    by_test (is_less b a) _
    (λ e. rw (before_less a b p q e) (sym (lesser_of_less a b e)))
    (λ e. by_test (is_less a b) _
    (λ f. rw (after_less a b p q e f) (sym (lesser_of_more a b f)))
    (λ f. tie (not_less_same a b e f) (tied a b p q e f)))
  where
    tie : a ≡ b → is_before (ranked b q) (ranked a p) ≡ not q && p → (first_rank (ranked a p) (ranked b q)).bound ≡ lesser_bound a b
    tie same t =
        rw t (subst (λ (z : Bound). (if not q && p then ranked z q else ranked a p).bound ≡ lesser_bound a z) same (picked_bound (not q && p) a p q ∙ sym (lesser_itself a)))

-- where the first rank is closed, so is each rank of its bound
pub first_closed : (a b : Bound) (p q : Bool) → (first_rank (ranked a p) (ranked b q)).is_closed ≡ true
    → (a ≡ (first_rank (ranked a p) (ranked b q)).bound → p ≡ true) × (b ≡ (first_rank (ranked a p) (ranked b q)).bound → q ≡ true)
first_closed a b p q =
    by_test (is_less b a) _
    (λ e. rw (before_less a b p q e) (λ h. (λ same. clash (sym (not_less_itself b) ∙ subst (λ (z : Bound). is_less b z ≡ true) same e), λ _. h)))
    (λ e. by_test (is_less a b) _
    (λ f. rw (after_less a b p q e f) (λ h. (λ _. h, λ same. clash (sym (not_less_itself a) ∙ subst (λ (z : Bound). is_less a z ≡ true) same f))))
    (λ f. rw (tied a b p q e f) (at p q)))
  where
    at : (p q : Bool) → (if not q && p then ranked b q else ranked a p).is_closed ≡ true
        → (a ≡ (if not q && p then ranked b q else ranked a p).bound → p ≡ true) × (b ≡ (if not q && p then ranked b q else ranked a p).bound → q ≡ true)
    at true true h = (λ _. refl, λ _. refl)
    at true false h = clash h
    at false true h = clash h
    at false false h = clash h
