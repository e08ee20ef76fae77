-- One more cell gets its patch's number.
use Rattle.std.proofs.Common.{◌≡◌, ◌≢◌, ℕ, ◌+◌, ◌<◌, ◌≤◌, ◌⊎◌, ap, sym, ◌∙◌, arith, subst, inl, inr, List, [], ◌∷◌, ◌++◌, length, Option, Some, None}
use Rattle.std.specs.Prelude.{◌↔◌}
use Rattle.std.proofs.Math.ListN.{get_or-append}
use Rattle.std.proofs.lemmas.List.{get_or_push}
use Rattle.grid_reader.specs.Grid.{Grid, value_at}
use Rattle.grid_reader.specs.Walks.{InOnePatch}
use Rattle.grid_reader.specs.Patches.{AreNumbered, AreLeaders, number_at}
use Rattle.grid_reader.proofs.PatchLemmas.{split_last, patch_itself, patch_back, patch_along, patch_value}

-- what the last cell's number must keep
record IsNext (g : Grid) (at : ℕ) (old new : ℕ → Option ℕ) (count more : ℕ) : Type 0 where
  pub agree : (i : ℕ) → i < at → new i ≡ old i
  pub no_data : (new at ≡ None) ↔ (value_at g at ≡ g.nodata)
  pub one_patch : (i p q : ℕ) → i < at → old i ≡ Some p → new at ≡ Some q → (p ≡ q) ↔ InOnePatch g i at
  pub in_order : (p q : ℕ) → new at ≡ Some p → q < p → (j : ℕ) × (j < at) × (old j ≡ Some q)
  pub below : (p : ℕ) → new at ≡ Some p → p < more
  pub not_fewer : count ≤ more
  pub all : (p : ℕ) → p < more → (p < count) ⊎ (new at ≡ Some p)

one_some : (p q : ℕ) → Some p ≡ Some q → p ≡ q
one_some p q e = cc

numbered_more : (g : Grid) (at : ℕ) (old new : ℕ → Option ℕ) (count more : ℕ) → AreNumbered g at old count → IsNext g at old new count more → AreNumbered g (at + 1) new more
numbered_more g at old new count more before next = record {
  no_data = λ i h. split_last at i ((new i ≡ None) ↔ (value_at g i ≡ g.nodata)) h
      (λ b. subst (λ (x : Option ℕ). (x ≡ None) ↔ (value_at g i ≡ g.nodata)) (sym (next.agree i b)) (before.no_data i b))
      (λ (e : i ≡ at). subst (λ (m : ℕ). (new m ≡ None) ↔ (value_at g m ≡ g.nodata)) (sym e) next.no_data);
  one_patch = λ i j p q h k ei ej. split_last at i ((p ≡ q) ↔ InOnePatch g i j) h
      (λ b. split_last at j ((p ≡ q) ↔ InOnePatch g i j) k
      (λ d. before.one_patch i j p q b d (sym (next.agree i b) ∙ ei) (sym (next.agree j d) ∙ ej))
      (λ (e : j ≡ at). subst (λ (m : ℕ). (p ≡ q) ↔ InOnePatch g i m) (sym e)
      (next.one_patch i p q b (sym (next.agree i b) ∙ ei) (subst (λ (m : ℕ). new m ≡ Some q) e ej))))
      (λ (f : i ≡ at). split_last at j ((p ≡ q) ↔ InOnePatch g i j) k
      (λ d.
      let there = next.one_patch j q p d (sym (next.agree j d) ∙ ej) (subst (λ (m : ℕ). new m ≡ Some p) f ei) in
      subst (λ (m : ℕ). (p ≡ q) ↔ InOnePatch g m j) (sym f) (λ s. patch_back g j at (there.0 (sym s)), λ w. sym (there.1 (patch_back g at j w))))
      (λ (e : j ≡ at).
      let same : p ≡ q = one_some p q (sym ei ∙ ap new (f ∙ sym e) ∙ ej) in
      (λ _. subst (λ (m : ℕ). InOnePatch g i m) (f ∙ sym e) (patch_itself g i), λ _. same)));
  in_order = λ i p q h e low. split_last at i ((j : ℕ) × (j < i) × (new j ≡ Some q)) h
      (λ b. let w = before.in_order i p q b (sym (next.agree i b) ∙ e) low in
      let inside : w.0 < at = (let less = w.1 in omega arith) in
      (w.0, w.1, next.agree w.0 inside ∙ w.2))
      (λ (f : i ≡ at).
      let w = next.in_order p q (subst (λ (m : ℕ). new m ≡ Some p) f e) low in
      (w.0, subst (λ (m : ℕ). w.0 < m) (sym f) w.1, next.agree w.0 w.1 ∙ w.2));
  below = λ i p h e. split_last at i (p < more) h
      (λ b. let low = before.below i p b (sym (next.agree i b) ∙ e) in let more_too = next.not_fewer in omega arith)
      (λ (f : i ≡ at). next.below p (subst (λ (m : ℕ). new m ≡ Some p) f e));
  all = λ p h. elim (next.all p h) [
    | inl low ↦ (let w = before.all p low in let inside : w.0 < at + 1 = (let less = w.1 in omega arith) in (w.0, inside, next.agree w.0 w.1 ∙ w.2))
    | inr is ↦ (let inside : at < at + 1 = omega arith in (at, inside, is))
  ];
}

-- a cell without data
pub numbered_none : (g : Grid) (at : ℕ) (old new : ℕ → Option ℕ) (count : ℕ) → AreNumbered g at old count → ((i : ℕ) → i < at → new i ≡ old i) → new at ≡ None → value_at g at ≡ g.nodata → AreNumbered g (at + 1) new count
numbered_none g at old new count before agree is none = numbered_more g at old new count count before (record {
  agree = agree;
  no_data = (λ _. none, λ _. is);
  one_patch = λ i p q h e f. absurd (no_some q (sym is ∙ f));
  in_order = λ p q e low. absurd (no_some p (sym is ∙ e));
  below = λ p e. absurd (no_some p (sym is ∙ e));
  not_fewer = omega arith;
  all = λ p h. inl h;
})
  where
    no_some : (p : ℕ) → None ≡ Some p → ⊥
    no_some p e = cc

-- the first cell of a patch
pub numbered_first : (g : Grid) (at : ℕ) (old new : ℕ → Option ℕ) (count : ℕ) (leader : ℕ → ℕ) → AreLeaders g leader → at < length g.cells → AreNumbered g at old count → ((i : ℕ) → i < at → new i ≡ old i) → new at ≡ Some count → value_at g at ≢ g.nodata → leader at ≡ at → AreNumbered g (at + 1) new (count + 1)
numbered_first g at old new count leader leads inside before agree is some first = numbered_more g at old new count (count + 1) before (record {
  agree = agree;
  no_data = (λ e. absurd (no_some count (sym e ∙ is)), λ e. absurd (some e));
  one_patch = λ i p q h e f.
      let q_is : q ≡ count = one_some q count (sym f ∙ is) in
      let p_low : p < count = before.below i p h e in
      let i_in : i < length g.cells = omega arith in (
        λ s. absurd (omega arith),
        λ w. absurd (let same : leader i ≡ leader at = (leads.one_patch i at i_in inside).1 w in let low : leader i ≤ i = leads.low i i_in in omega arith),
      );
  in_order = λ p q e low.
      let p_is : p ≡ count = one_some p count (sym e ∙ is) in
      before.all q (omega arith);
  below = λ p e. (let p_is : p ≡ count = one_some p count (sym e ∙ is) in omega arith);
  not_fewer = omega arith;
  all = λ p h. split_last count p ((p < count) ⊎ (new at ≡ Some p)) h (λ b. inl b) (λ (e : p ≡ count). inr (is ∙ ap Some (sym e)));
})
  where
    no_some : (p : ℕ) → None ≡ Some p → ⊥
    no_some p e = cc

-- a further cell of a patch
pub numbered_further : (g : Grid) (at : ℕ) (old new : ℕ → Option ℕ) (count : ℕ) (leader : ℕ → ℕ) → AreLeaders g leader → at < length g.cells → AreNumbered g at old count → ((i : ℕ) → i < at → new i ≡ old i) → new at ≡ old (leader at) → value_at g at ≢ g.nodata → leader at ≢ at → AreNumbered g (at + 1) new count
numbered_further g at old new count leader leads inside before agree is some further =
    let l = leader at in
    let low : l ≤ at = leads.low at inside in
    let here : l < at = omega arith in
    let way : InOnePatch g at l = leads.itself at inside in
    let same : value_at g at ≡ value_at g l = patch_value g at l way in
    numbered_more g at old new count count before (record {
      agree = agree;
      no_data = (λ e. same ∙ (before.no_data l here).0 (sym is ∙ e), λ e. absurd (some e));
      one_patch = λ i p q h e f.
          let both = before.one_patch i l p q h here e (sym is ∙ f) in
          (λ s. patch_along g i l at (both.0 s) (patch_back g at l way), λ w. both.1 (patch_along g i at l w way));
      in_order = λ p q e less.
          let w = before.in_order l p q here (sym is ∙ e) less in
          let within : w.0 < at = (let k = w.1 in omega arith) in
          (w.0, within, w.2);
      below = λ p e. before.below l p here (sym is ∙ e);
      not_fewer = omega arith;
      all = λ p h. inl h;
    })

-- no cell has a number yet
pub numbered_start : (g : Grid) (number : ℕ → Option ℕ) → AreNumbered g 0 number 0
numbered_start g number = record {
  no_data = λ i h. absurd (omega arith);
  one_patch = λ i j p q h k e f. absurd (omega arith);
  in_order = λ i p q h e low. absurd (omega arith);
  below = λ i p h e. absurd (omega arith);
  all = λ p h. absurd (omega arith);
}

pub push_before : (xs ys : List (Option ℕ)) (x : Option ℕ) (at : ℕ) → length xs ≡ at → ys ≡ xs ++ x ∷ [] → (i : ℕ) → i < at → number_at ys i ≡ number_at xs i
push_before xs ys x at long is i h = ap (λ (zs : List (Option ℕ)). number_at zs i) is ∙ get_or-append xs (x ∷ []) None i (omega arith)

pub push_last : (xs ys : List (Option ℕ)) (x : Option ℕ) (at : ℕ) → length xs ≡ at → ys ≡ xs ++ x ∷ [] → number_at ys at ≡ x
push_last xs ys x at long is = ap (λ (zs : List (Option ℕ)). number_at zs at) is ∙ get_or_push xs x None at long
