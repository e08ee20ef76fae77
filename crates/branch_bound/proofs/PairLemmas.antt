-- Areas that have more than one class.
use Rattle.std.proofs.Common.{◌≡◌, ℕ, zero, suc, ◌+◌, ◌<◌, Bool, true, List, sym, ◌∙◌, ap, subst, arith, inl, inr, ◌⊎◌, Option, Some, None}
use Rattle.std.specs.Prelude.{◌==◌, IfSome}
use Rattle.std.proofs.lemmas.Bool.{cases_lt}
use Rattle.std.proofs.lemmas.Bool.Decides.{Decides-eqb}
use Rattle.agg_model.specs.Problem.{Problem, areas}
use Rattle.row_laws.specs.Fixed.{IsSingle, AreSingle}
use Rattle.row_laws.proofs.Tests.{by_test, clash}
use Rattle.bound_rows.specs.Domains.{allows, IsFor}
use Rattle.branch_bound.specs.Trees.{IsFork}

-- among the first n classes there is another one, or there is none
other_below : (ok : ℕ → Bool) (k n : ℕ) → ((j : ℕ) × (j < n) × (ok j ≡ true) × (j ≡ k → ⊥)) ⊎ ((j : ℕ) → j < n → ok j ≡ true → j ≡ k)
other_below ok k zero = inr (λ j h t. absurd (omega arith))
other_below ok k (suc n) =
    elim (other_below ok k n) [
      | inl w ↦ inl (w.0, omega (arith, w.1), w.2, w.3)
      | inr none ↦
          by_test (n == k) _
          (λ same. inr (λ j h t. elim (cases_lt j n) [
            | inl less ↦ none j less t
            | inr more ↦ (let e : j ≡ n = omega arith in e ∙ (Decides-eqb n k).0 same)
          ]))
          (λ apart. by_test (ok n) _
          (λ t. inl (n, omega arith, t, λ e. clash (sym apart ∙ (Decides-eqb n k).1 e)))
          (λ f. inr (λ j h t. elim (cases_lt j n) [
            | inl less ↦ none j less t
            | inr more ↦ (let e : j ≡ n = omega arith in clash (sym f ∙ (ap ok (sym e) ∙ t)))
          ])))
    ]

-- a class of an area that has more than one has another beside it
pub fork_of : (p : Problem) (sets : List ℕ) (v k : ℕ) → IsFor p sets → v < areas p → allows sets v k ≡ true → (¬ IsSingle (allows sets v) p.classes) → IsFork p (allows sets) v k
fork_of p sets v k ok hv allowed several = (
  hv,
  allowed,
  elim (other_below (allows sets v) k p.classes) [
    | inl w ↦ (w.0, w.1, w.2, w.3)
    | inr none ↦ absurd (several (k, ok.below v k hv allowed, allowed, none))
  ],
)

-- the first n areas have one class each, or the area that was found has more than one
abbrev pub IsSoFar : Problem → List ℕ → ℕ → Option ℕ → Type 0
IsSoFar p sets n None = AreSingle p (allows sets) n
IsSoFar p sets n (Some v) = (v < areas p) × (¬ IsSingle (allows sets v) p.classes)

single_more : (p : Problem) (sets : List ℕ) (n : ℕ) → AreSingle p (allows sets) n → IsSingle (allows sets n) p.classes → AreSingle p (allows sets) (n + 1)
single_more p sets n before here v h =
    elim (cases_lt v n) [
      | inl less ↦ before v less
      | inr last ↦ (let e : n ≡ v = omega arith in subst (λ (u : ℕ). IsSingle (allows sets u) p.classes) e here)
    ]

pub so_far_single : (p : Problem) (sets : List ℕ) (n : ℕ) (found : Option ℕ) → IsSingle (allows sets n) p.classes → IsSoFar p sets n found → IsSoFar p sets (n + 1) found
so_far_single p sets n None here is = single_more p sets n is here
so_far_single p sets n (Some v) here is = is

pub so_far_several : (p : Problem) (sets : List ℕ) (n : ℕ) (found : Option ℕ) (v : ℕ) → n < areas p → (¬ IsSingle (allows sets n) p.classes) → IsSoFar p sets n found → (v ≡ n) ⊎ (found ≡ Some v) → IsSoFar p sets (n + 1) (Some v)
so_far_several p sets n found v hn several is (inl e) =
    subst (λ (u : ℕ). (u < areas p) × (¬ IsSingle (allows sets u) p.classes)) (sym e) (hn, several)
so_far_several p sets n found v hn several is (inr e) = subst (λ (o : Option ℕ). IsSoFar p sets n o) e is

pub so_far_below : (p : Problem) (sets : List ℕ) (n : ℕ) (found : Option ℕ) → IsSoFar p sets n found → IfSome found (λ v. v < areas p)
so_far_below p sets n None is = tt
so_far_below p sets n (Some v) is = is.0
