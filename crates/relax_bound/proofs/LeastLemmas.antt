-- The least number among those that pass a test.
use Rattle.std.proofs.Common.{◌≡◌, ℕ, zero, suc, ◌<◌, ◌≢◌, Bool, true, false, refl, sym, ◌∙◌, arith, subst, Option, Some, None, ◌⊎◌, inl, inr}
use Rattle.std.specs.Prelude.{ℤ, pos, ◌≤ℤ◌, ◌==◌, unwrap_or}
use Rattle.std.specs.Int.{int_min}
use Rattle.std.proofs.lemmas.Int.{ints, clamps, by_lt_z}
use Rattle.std.proofs.lemmas.Bool.Decides.{Decides-eqb}
use Rattle.row_laws.proofs.Tests.{by_test, clash}
use Rattle.row_laws.specs.Values.{lesser, least_below}

-- x is the least of the numbers below n that pass the test
pub record IsLeast (ok : ℕ → Bool) (g : ℕ → ℤ) (n : ℕ) (x : ℤ) : Type 0 where
  pub place : ℕ
  pub below : place < n
  pub passes : ok place ≡ true
  pub is : g place ≡ x
  pub least : (j : ℕ) → j < n → ok j ≡ true → x ≤ℤ g j

abbrev IsLeastOf : (ℕ → Bool) → (ℕ → ℤ) → ℕ → Option ℤ → Type 0
IsLeastOf ok g n None = (j : ℕ) → j < n → ok j ≡ false
IsLeastOf ok g n (Some x) = IsLeast ok g n x

pub min_is : (x y : ℤ) → ((int_min x y ≡ x) × (x ≤ℤ y)) ⊎ ((int_min x y ≡ y) × (y ≤ℤ x))
min_is x y = by_lt_z y x (λ h. inr (omega (arith, ints, clamps), omega (arith, ints))) (λ h. inl (omega (arith, ints, clamps), h))

-- what holds below n and at n holds below n + 1
pub below_next : (P : ℕ → Type 0) (n : ℕ) → ((j : ℕ) → j < n → P j) → P n → (j : ℕ) → j < suc n → P j
below_next P n old new j h =
    by_test (j == n) _
    (λ e. subst P (sym ((Decides-eqb j n).0 e)) new)
    (λ e. let apart : j ≢ n = λ q. clash (sym e ∙ (Decides-eqb j n).1 q) in old j (omega arith))

one_more : (ok : ℕ → Bool) (g : ℕ → ℤ) (n : ℕ) (best : Option ℤ) → ok n ≡ true → IsLeastOf ok g n best → IsLeast ok g (suc n) (lesser best (g n))
one_more ok g n None e h = record {
  place = n;
  below = omega arith;
  passes = e;
  is = refl;
  least = below_next (λ j. ok j ≡ true → g n ≤ℤ g j) n (λ j q t. clash (sym (h j q) ∙ t)) (λ t. omega (arith, ints));
}
one_more ok g n (Some x) e h =
    elim (min_is x (g n)) [
      | inl m ↦
          (let same = m.0 in
          let less = m.1 in
          record {
            place = h.place;
            below = (let b = h.below in omega arith);
            passes = h.passes;
            is = h.is ∙ sym same;
            least = below_next (λ j. ok j ≡ true → int_min x (g n) ≤ℤ g j) n
                (λ j q t. (let l = h.least j q t in omega (arith, ints)))
                (λ t. omega (arith, ints));
          })
      | inr m ↦
          (let same = m.0 in
          let less = m.1 in
          record {
            place = n;
            below = omega arith;
            passes = e;
            is = sym same;
            least = below_next (λ j. ok j ≡ true → int_min x (g n) ≤ℤ g j) n
                (λ j q t. (let l = h.least j q t in omega (arith, ints)))
                (λ t. omega (arith, ints));
          })
    ]

longer : (ok : ℕ → Bool) (g : ℕ → ℤ) (n : ℕ) (best : Option ℤ) → ok n ≡ false → IsLeastOf ok g n best → IsLeastOf ok g (suc n) best
longer ok g n None e h = below_next (λ j. ok j ≡ false) n h e
longer ok g n (Some x) e h = record {
  place = h.place;
  below = (let b = h.below in omega arith);
  passes = h.passes;
  is = h.is;
  least = below_next (λ j. ok j ≡ true → x ≤ℤ g j) n h.least (λ t. clash (sym e ∙ t));
}

least_of : (ok : ℕ → Bool) (g : ℕ → ℤ) (n : ℕ) → IsLeastOf ok g n (least_below ok g n)
least_of ok g zero = λ j h. absurd (omega arith)
least_of ok g (suc n) =
    let before = least_of ok g n in
    by_test (ok n) _
    (λ e. rw e (one_more ok g n (least_below ok g n) e before))
    (λ e. rw e (longer ok g n (least_below ok g n) e before))

unwrapped : (ok : ℕ → Bool) (g : ℕ → ℤ) (n k : ℕ) (best : Option ℤ) → k < n → ok k ≡ true → IsLeastOf ok g n best → IsLeast ok g n (unwrap_or best (pos 0))
unwrapped ok g n k None q t h = clash (sym (h k q) ∙ t)
unwrapped ok g n k (Some x) q t h = h

-- where a number passes the test, the least one is the least one
pub least_is : (ok : ℕ → Bool) (g : ℕ → ℤ) (n k : ℕ) → k < n → ok k ≡ true → IsLeast ok g n (unwrap_or (least_below ok g n) (pos 0))
least_is ok g n k q t = unwrapped ok g n k (least_below ok g n) q t (least_of ok g n)

-- there is one least number
pub least_same : (ok : ℕ → Bool) (g : ℕ → ℤ) (n : ℕ) (x y : ℤ) → IsLeast ok g n x → IsLeast ok g n y → x ≡ y
least_same ok g n x y a b =
    let low = a.least b.place b.below b.passes in
    let high = b.least a.place a.below a.passes in
    let ea = a.is in
    let eb = b.is in
    omega (arith, ints)
