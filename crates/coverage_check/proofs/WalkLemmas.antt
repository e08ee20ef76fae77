-- The steps of a walk over borders.
use Rattle.std.proofs.Common.{◌≡◌, ℕ, zero, suc, ◌+◌, ◌%◌, ◌<◌, ◌≤◌, inl, inr, refl, sym, ◌∙◌, ap, subst, arith, Bool, true, false, cond, eqb, List, length, get_or, take, count_by, Option, Some, None}
use Rattle.std.proofs.lemmas.Bool.{cases_lt}
use Rattle.std.proofs.lemmas.Bool.Decides.{nat_tests}
use Rattle.std.proofs.lemmas.List.Sums.{sum_by_more}
use Rattle.coverage_check.specs.declared.border.Border.{Border}
use Rattle.coverage_check.specs.declared.walk.Passed.{Passed}
use Rattle.coverage_check.specs.declared.walk.Passed.TheVariants.{Open, Twice}
use Rattle.coverage_check.specs.Areas.{is_this}
use Rattle.coverage_check.specs.Walk.{is_of, differ, is_inside_after, IsAlone, Tells}

-- ---- one border more
flip : (x y : ℕ) (p : Bool) → x < 2 → y ≡ (x + cond p 1 0) % 2 → eqb y 1 ≡ differ (eqb x 1) p
flip zero y true h e = ap (λ n. eqb n 1) e
flip zero y false h e = ap (λ n. eqb n 1) e
flip (suc zero) y true h e = ap (λ n. eqb n 1) e
flip (suc zero) y false h e = ap (λ n. eqb n 1) e
flip (suc (suc x)) y p h e = absurd (omega arith)

pub toggled : (bs : List Border) (n : ℕ) (d : Border) (a : ℕ) → n < length bs → is_inside_after bs (n + 1) a ≡ differ (is_inside_after bs n a) (is_of a (get_or bs n d))
toggled bs n d a h =
    let m = count_by (λ b. is_of a b) (take n bs) in
    let p = is_of a (get_or bs n d) in
    ap (λ m. eqb (m % 2) 1) (sum_by_more (λ b. cond (is_of a b) 1 0) bs n d h) ∙ flip (m % 2) ((m + cond p 1 0) % 2) p (omega arith) (omega arith)

pub record IsWalked (bs : List Border) (n : ℕ) (o : Option ℕ) : Type 0 where
  pub inside : (a : ℕ) → is_this a o ≡ is_inside_after bs n a
  pub alone : (k : ℕ) → k ≤ n → IsAlone bs k

pub walked_none : (bs : List Border) → IsWalked bs 0 None
walked_none bs = record {
  inside = λ a. refl;
  alone = λ k h a b l p q. none k h a p;
}
  where
    none : (k : ℕ) → k ≤ 0 → (a : ℕ) → is_inside_after bs k a ≡ true → ⊥
    none zero h a p = cc
    none (suc k) h a p = absurd (omega arith)

one_alone : (o : Option ℕ) (a b : ℕ) → a < b → is_this a o ≡ true → is_this b o ≡ true → ⊥
one_alone None a b l p q = cc
one_alone (Some c) a b l p q = grind (arith, nat_tests)

-- what is told of the areas behind the next border
abbrev pub Next : List Border → ℕ → ℕ → Bool
Next bs n a = is_inside_after bs (n + 1) a

pub tells_same : (f g : ℕ → Bool) (p : Passed) → ((a : ℕ) → f a ≡ g a) → Tells f p → Tells g p
tells_same f g (Open o) e t = λ a. t a ∙ e a
tells_same f g (Twice a b) e t = record { rising = t.rising; first = sym (e a) ∙ t.first; second = sym (e b) ∙ t.second; least = λ c h. t.least c (e c ∙ h) }

pub told : (bs : List Border) (n : ℕ) (d : Border) (o : Option ℕ) (p : Passed) → n < length bs → IsWalked bs n o → Tells (λ c. differ (is_this c o) (is_of c (get_or bs n d))) p → Tells (is_inside_after bs (n + 1)) p
told bs n d o p h w t = tells_same (λ c. differ (is_this c o) (is_of c (get_or bs n d))) (is_inside_after bs (n + 1)) p (λ a. ap (λ x. differ x (is_of a (get_or bs n d))) (w.inside a) ∙ sym (toggled bs n d a h)) t

pub walked_more : (bs : List Border) (n : ℕ) (o q : Option ℕ) → IsWalked bs n o → Tells (is_inside_after bs (n + 1)) (Open q) → IsWalked bs (n + 1) q
walked_more bs n o q w t = record {
  inside = t;
  alone = λ k h. elim (cases_lt k (n + 1)) [
    | inl l ↦ w.alone k (omega arith)
    | inr l ↦ (let e : n + 1 ≡ k = omega arith in subst (IsAlone bs) e (λ a b l p q'. one_alone q a b l (t a ∙ p) (t b ∙ q')))
  ];
}

pub walked_open : (bs : List Border) (n : ℕ) (d : Border) (o q : Option ℕ) → n < length bs → d ≡ get_or bs n d → IsWalked bs n o → ((a : ℕ) → is_this a q ≡ differ (is_this a o) (is_of a d)) → IsWalked bs (n + 1) q
walked_open bs n d o q h e w t =
    walked_more bs n o q w (told bs n d o (Open q) h w (λ a. t a ∙ ap (λ x. differ (is_this a o) (is_of a x)) e))
