-- Domains that are for a problem stay so.
use Rattle.std.proofs.Common.{◌≡◌, ◌≢◌, ℕ, ◌-◌, ◌/◌, ◌%◌, ◌^◌, ◌<◌, Bool, true, false, List, length, refl, ap, sym, ◌∙◌, subst, inl, inr}
use Rattle.std.specs.Prelude.{◌==◌, not, ◌&&◌, replicate}
use Rattle.std.proofs.lemmas.List.{get_or-replicate}
use Rattle.std.proofs.lemmas.Bool.{cases_lt}
use Rattle.std.proofs.lemmas.Nat.Bits.{bit_at_ones, bit_at_ones_above}
use Rattle.agg_model.specs.Problem.{Problem, areas}
use Rattle.row_laws.specs.Trees.{only, without}
use Rattle.row_laws.proofs.Tests.{by_test, clash}
use Rattle.bound_rows.specs.Domains.{allows, IsFor}
use Rattle.bound_rows.proofs.EscapeLemmas.{eq_of, is_eq, is_ne}

at_point : (f g : ℕ → ℕ → Bool) (u j : ℕ) → f ≡ g → f u j ≡ g u j
at_point f g u j e = ap (λ (h : ℕ → ℕ → Bool). h u j) e

and_first : (a b : Bool) → a && b ≡ true → a ≡ true
and_first true b h = refl
and_first false b h = cc

both_true : (a b : Bool) → a ≡ true → b ≡ true → a && b ≡ true
both_true a b h k = rw (h, k) refl

pub for_only : (p : Problem) (old new : List ℕ) (v k : ℕ) → length new ≡ length old → allows new ≡ only (allows old) v k → allows old v k ≡ true → IsFor p old → IsFor p new
for_only p old new v k n e ok h = record {
  count = n ∙ h.count;
  below = λ u j hu t. below u j hu (sym (at_point (allows new) (only (allows old) v k) u j e) ∙ t);
  filled = λ u hu. filled u hu;
}
  where
    below : (u j : ℕ) → u < areas p → only (allows old) v k u j ≡ true → j < p.classes
    below u j hu t =
        by_test (u == v) _
        (λ s.
        let is : (j == k) ≡ true = rw s at t in
        subst (λ (x : ℕ). x < p.classes) (sym (eq_of j k is)) (h.below v k (subst (λ (x : ℕ). x < areas p) (eq_of u v s) hu) ok))
        (λ s.
        let was : allows old u j ≡ true = rw s at t in
        h.below u j hu was)

    filled : (u : ℕ) → u < areas p → (j : ℕ) × (allows new u j ≡ true)
    filled u hu =
        by_test (u == v) _
        (λ s. (k, at_point (allows new) (only (allows old) v k) u k e ∙ rw s (is_eq k k refl)))
        (λ s.
        let was = h.filled u hu in
        (was.0, at_point (allows new) (only (allows old) v k) u was.0 e ∙ rw s was.1))

pub for_without : (p : Problem) (old new : List ℕ) (v k other : ℕ) → length new ≡ length old → allows new ≡ without (allows old) v k → allows old v other ≡ true → other ≢ k → IsFor p old → IsFor p new
for_without p old new v k other n e ok apart h = record {
  count = n ∙ h.count;
  below = λ u j hu t. h.below u j hu (was u j (sym (at_point (allows new) (without (allows old) v k) u j e) ∙ t));
  filled = λ u hu. filled u hu;
}
  where
    was : (u j : ℕ) → without (allows old) v k u j ≡ true → allows old u j ≡ true
    was u j t =
        by_test (u == v) _
        (λ s. and_first (allows old u j) (not (j == k)) (rw s at t))
        (λ s. rw s at t)

    filled : (u : ℕ) → u < areas p → (j : ℕ) × (allows new u j ≡ true)
    filled u hu =
        by_test (u == v) _
        (λ s. (other, at_point (allows new) (without (allows old) v k) u other e ∙ rw s (both_true _ _ (ap (λ x. allows old x other) (eq_of u v s) ∙ ok) (ap not (is_ne other k apart)))))
        (λ s.
        let had = h.filled u hu in
        (had.0, at_point (allows new) (without (allows old) v k) u had.0 e ∙ rw s had.1))

-- ---- all classes

whole_at : (n c v k : ℕ) → v < n → k < c → allows (replicate n (2 ^ c - 1)) v k ≡ true
whole_at n c v k h q =
    ap (λ x. x / 2 ^ k % 2 == 1) (get_or-replicate n v (2 ^ c - 1) 0 h) ∙ ap (λ x. x == 1) (bit_at_ones c k q)

pub whole_allows : (p : Problem) (sets : List ℕ) → sets ≡ replicate (areas p) (2 ^ p.classes - 1) → (v k : ℕ) → v < areas p → k < p.classes → allows sets v k ≡ true
whole_allows p sets e v k h q = ap (λ xs. allows xs v k) e ∙ whole_at (areas p) p.classes v k h q

pub whole_for : (p : Problem) (sets : List ℕ) → 0 < p.classes → length sets ≡ areas p → sets ≡ replicate (areas p) (2 ^ p.classes - 1) → IsFor p sets
whole_for p sets some n e = record {
  count = n;
  below = λ v k h t. below v k h (sym (ap (λ xs. allows xs v k) e) ∙ t);
  filled = λ v h. (0, whole_allows p sets e v 0 h some);
}
  where
    below : (v k : ℕ) → v < areas p → allows (replicate (areas p) (2 ^ p.classes - 1)) v k ≡ true → k < p.classes
    below v k h t =
        elim (cases_lt k p.classes) [
          | inl q ↦ q
          | inr q ↦
              (let none : allows (replicate (areas p) (2 ^ p.classes - 1)) v k ≡ false =
              ap (λ x. x / 2 ^ k % 2 == 1) (get_or-replicate (areas p) v (2 ^ p.classes - 1) 0 h) ∙ ap (λ x. x == 1) (bit_at_ones_above p.classes k q) in
              clash (sym none ∙ t))
        ]
