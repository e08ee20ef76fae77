-- The domains of the root, and domains on the way down a tree and back.
use Rattle.std.proofs.Common.{◌≡◌, ◌≢◌, ℕ, zero, suc, ◌<◌, ◌≤◌, ◌/◌, ◌%◌, ◌^◌, ◌⊎◌, inl, inr, Bool, true, false, refl, sym, ◌∙◌, ap, subst, arith, List, length, get_or}
use Rattle.std.specs.Prelude.{◌==◌, ◌&&◌, not, nat_lt}
use Rattle.std.proofs.lemmas.Bool.{cases_lt}
use Rattle.std.proofs.lemmas.Bool.Decides.{nat_tests}
use Rattle.std.proofs.lemmas.List.{get_or_past}
use Rattle.std.proofs.Math.Nat.{zero-div}
use mathlib.Core.Path.{fun_ext}
use Rattle.agg_base.specs.declared.limits.TheConstants.{CLASSES}
use Rattle.agg_model.specs.Problem.{Problem, IsProblem, areas}
use Rattle.row_laws.specs.Values.{Allowed}
use Rattle.row_laws.specs.Fixed.{IsSingle}
use Rattle.row_laws.specs.Leaves.{IsRoot}
use Rattle.row_laws.specs.Trees.{HasOther}
use Rattle.row_laws.proofs.Tests.{by_test, clash, and_both}
use Rattle.bound_rows.specs.Domains.{allows, IsFor}
use Rattle.bound_rows.proofs.EscapeLemmas.{eq_of, ne_of}
use Rattle.tree_check.specs.Nodes.{root_domains, IsGoodSplit}

-- ---- the root

below : (k n : ℕ) → k < n → nat_lt k n ≡ true
below k n h = grind (arith, nat_tests)

not_below : (k n : ℕ) → n ≤ k → nat_lt k n ≡ false
not_below k n h = grind (arith, nat_tests)

is_below : (k n : ℕ) → nat_lt k n ≡ true → k < n
is_below k n e = grind (arith, nat_tests)

and_parts : (a b : Bool) → a && b ≡ true → (a ≡ true) × (b ≡ true)
and_parts true b h = (refl, h)
and_parts false b h = clash h

and_first : (a b : Bool) → a ≡ false → a && b ≡ false
and_first true b h = clash (sym h)
and_first false b h = refl

and_second : (a b : Bool) → b ≡ false → a && b ≡ false
and_second true b h = h
and_second false b h = refl

pub root_is_root : (p : Problem) → IsRoot p (root_domains p)
root_is_root p = record {
  all = λ v k h q. and_both (nat_lt v (areas p)) (nat_lt k p.classes) (below v (areas p) h) (below k p.classes q);
  only = λ v k h e. is_below k p.classes (and_parts (nat_lt v (areas p)) (nat_lt k p.classes) e).1;
}

-- nothing is allowed past the last area
beyond : (sets : List ℕ) (v k : ℕ) → length sets ≤ v → allows sets v k ≡ false
beyond sets v k h = ap (λ x. x / 2 ^ k % 2 == 1) (get_or_past sets v 0 h) ∙ ap (λ x. x % 2 == 1) (zero-div (2 ^ k))

-- the domains of the root, as sets of classes
pub root_sets : (p : Problem) (sets : List ℕ) → IsFor p sets → IsRoot p (allows sets) → allows sets ≡ root_domains p
root_sets p sets for_problem root = fun_ext (λ v. fun_ext (λ k. at v k))
  where
    at : (v k : ℕ) → allows sets v k ≡ root_domains p v k
    at v k =
        elim (cases_lt v (areas p)) [
          | inl h ↦
              elim (cases_lt k p.classes) [
                | inl q ↦ root.all v k h q ∙ sym ((root_is_root p).all v k h q)
                | inr q ↦
                    by_test (allows sets v k) _
                    (λ e. (let less = root.only v k h e in absurd (omega arith)))
                    (λ e. e ∙ sym (and_second (nat_lt v (areas p)) (nat_lt k p.classes) (not_below k p.classes q)))
              ]
          | inr h ↦
              (let count = for_problem.count in
              beyond sets v k (omega arith) ∙ sym (and_first (nat_lt v (areas p)) (nat_lt k p.classes) (not_below v (areas p) h)))
        ]

-- ---- splits

-- a passing number, and that no other below n passes; or another one that does
other_below : (ok : ℕ → Bool) (k n : ℕ) → ((j : ℕ) × (j < n) × (ok j ≡ true) × (j ≡ k → ⊥)) ⊎ ((j : ℕ) → j < n → ok j ≡ true → j ≡ k)
other_below ok k zero = inr (λ j h t. absurd (omega arith))
other_below ok k (suc n) =
    elim (other_below ok k n) [
      | inl found ↦ (let less = found.1 in inl (found.0, omega arith, found.2, found.3))
      | inr alone ↦
          by_test (ok n) _
          (λ t.
          by_test (n == k) _
          (λ e. inr (λ j h u. at j n k h (eq_of n k e) alone u))
          (λ e. inl (n, omega arith, t, ne_of n k e)))
          (λ f. inr (λ j h u. skip j n h f alone u))
    ]
  where
    at : (j n k : ℕ) → j < suc n → n ≡ k → ((j : ℕ) → j < n → ok j ≡ true → j ≡ k) → ok j ≡ true → j ≡ k
    at j n k h e alone u =
        elim (cases_lt j n) [
          | inl q ↦ alone j q u
          | inr q ↦ omega arith
        ]

    skip : (j n : ℕ) → j < suc n → ok n ≡ false → ((j : ℕ) → j < n → ok j ≡ true → j ≡ k) → ok j ≡ true → j ≡ k
    skip j n h f alone u =
        elim (cases_lt j n) [
          | inl q ↦ alone j q u
          | inr q ↦
              (let same : j ≡ n = omega arith in
              clash (sym f ∙ (ap ok (sym same) ∙ u)))
        ]

-- an allowed class of an area that has not one alone
pub good_split : (p : Problem) (sets : List ℕ) (area class : ℕ) → IsProblem p → IsFor p sets → area < areas p → allows sets area class ≡ true → (¬ IsSingle (allows sets area) 64) → IsGoodSplit p (allows sets) area class
good_split p sets area class ok is h t many = record { area = h; class = t; other = other }
  where
    other : HasOther p (allows sets) area class
    other =
        elim (other_below (allows sets area) class p.classes) [
          | inl found ↦ found
          | inr alone ↦
              (let few = ok.few_classes in
              let less = is.below area class h t in
              absurd (many (class, omega arith, t, λ j q u. alone j (is.below area j h u) u)))
        ]

-- a good split is on no single class
pub split_not_single : (p : Problem) (sets : List ℕ) (area class : ℕ) → IsProblem p → IsFor p sets → IsGoodSplit p (allows sets) area class → ¬ IsSingle (allows sets area) 64
split_not_single p sets area class ok is good single =
    let few = ok.few_classes in
    let other = good.other in
    let less = other.1 in
    let one = single.3 other.0 (omega arith) other.2 in
    let within = is.below area class good.area good.class in
    let two = single.3 class (omega arith) good.class in
    other.3 (one ∙ sym two)

-- ---- denied tests

pub denied : (b : Bool) → not b ≡ true → b ≡ true → ⊥
denied true h k = clash h
denied false h k = clash k

pub deny : (b : Bool) → (b ≡ true → ⊥) → not b ≡ true
deny true h = absurd (h refl)
deny false h = refl
