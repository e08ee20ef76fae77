-- Shells among rings, and the places of heads.
use Rattle.std.proofs.Common.{◌≡◌, ℕ, ◌+◌, ◌<◌, ◌⊎◌, inl, inr, true, false, ℤ, List, [], ◌∷◌, ◌++◌, length, get_or, slice_index, Any, Vec, sym, ap, subst, ◌∙◌, arith}
use Rattle.std.specs.declared.alloc.Global.{Global}
use Rattle.std.proofs.lemmas.Bool.{false≢true}
use Rattle.std.proofs.lemmas.List.{get_or-map, get_or_push, get_or_append_left, length_push}
use Rattle.std.proofs.lemmas.List.Elements.{All-push}
use Rattle.std.proofs.lemmas.List.Quantifiers.{Any-push}
use Rattle.std.specs.List.Sorted.{IsPermutation}
use Rattle.std.proofs.lemmas.List.Sorted.{All-permutation, Contains-permutation}
use Rattle.plane_edge.specs.declared.point.Point.{Point}
use Rattle.arc_dissolve.specs.declared.shell.Shell.{Shell}
use Rattle.arc_dissolve.specs.Holes.{is_shell}
use Rattle.agg_base.specs.Lists.{lists_of}
use Rattle.arc_dissolve.specs.Shells.{AreShells, IsShellOf, IsShellAmong, IsHead, AreHeadsOf}

-- the list that a vector holds stands at its place
pub list_at : {X : Type 0} (vs : List (Vec X Global)) (i : ℕ) (v : Vec X Global) (xs : List X) → i < length vs → v ≡ get_or vs i v → xs ≡ v.items → xs ≡ get_or (lists_of vs) i []
list_at vs i v xs h is e = e ∙ (ap (λ w. w.items) is ∙ sym (get_or-map (λ w. w.items) vs i v [] h))

-- a number below the next is below this or this
pub below_next : (k n : ℕ) → k < n + 1 → (k < n) ⊎ (k ≡ n)
below_next k n h = grind arith

any_more : (P : Shell → Type 0) (xs : List Shell) (y : Shell) → Any P xs → Any P (xs ++ y ∷ [])
any_more P xs y a = (a.0, a.1, omega (arith, a.2, length_push xs y), get_or_append_left xs (y ∷ []) a.1 a.0 a.2 ∙ a.3, a.4)

pub shell_added : (rings : List (List ℤ)) (outlines : List (List Point)) (place : ℕ) (s : Shell) (old new : List Shell) → AreShells rings outlines place old → IsShellAmong rings outlines s → s.place ≡ place → new ≡ old ++ s ∷ [] → AreShells rings outlines (place + 1) new
shell_added rings outlines place s old new are is p n =
    subst (λ shells. AreShells rings outlines (place + 1) shells) (sym n) (record {
      each = All-push (IsShellAmong rings outlines) old s are.each is;
      complete = λ k h t. elim (below_next k place h) [ inl l ↦ any_more (λ z. z.place ≡ k) old s (are.complete k l t) | inr e ↦ Any-push (λ z. z.place ≡ k) old s (p ∙ sym e) ];
    })

pub shell_passed : (rings : List (List ℤ)) (outlines : List (List Point)) (place : ℕ) (old new : List Shell) → AreShells rings outlines place old → is_shell (get_or outlines place []) ≡ false → new ≡ old → AreShells rings outlines (place + 1) new
shell_passed rings outlines place old new are f n =
    subst (λ shells. AreShells rings outlines (place + 1) shells) (sym n) (record {
      each = are.each;
      complete = λ k h t. elim (below_next k place h) [ inl l ↦ are.complete k l t | inr e ↦ absurd (false≢true (sym f ∙ (ap (λ j. is_shell (get_or outlines j [])) (sym e) ∙ t))) ];
    })

-- in whatever order the shells stand
any_in_order : (P : Shell → Type 0) (xs ys : List Shell) → IsPermutation xs ys → Any P xs → Any P ys
any_in_order P xs ys p a =
    let c = Contains-permutation xs ys a.1 p (a.0, a.2, a.3) in
    (c.0, a.1, c.1, c.2, a.4)

pub shells_moved : (rings : List (List ℤ)) (outlines : List (List Point)) (n : ℕ) (old new : List Shell) → IsPermutation old new → AreShells rings outlines n old → AreShells rings outlines n new
shells_moved rings outlines n old new p are = record {
  each = All-permutation (IsShellAmong rings outlines) old new p are.each;
  complete = λ k h t. any_in_order (λ s. s.place ≡ k) old new p (are.complete k h t);
}

-- the ring at that place is a shell
pub among : (rings : List (List ℤ)) (outlines : List (List Point)) (place : ℕ) (ring : List ℤ) (outline : List Point) (s : Shell) → place < length outlines → ring ≡ get_or rings place [] → outline ≡ get_or outlines place [] → is_shell (get_or outlines place []) ≡ true → s.place ≡ place → IsShellOf ring outline s → IsShellAmong rings outlines s
among rings outlines place ring outline s h r o t p is =
    let at = subst (λ l. IsShellOf l (get_or outlines place []) s) r (subst (λ l. IsShellOf ring l s) o is) in
    record {
      within = subst (λ k. k < length outlines) (sym p) h;
      is = subst (λ k. is_shell (get_or outlines k []) ≡ true) (sym p) t;
      tells = subst (λ k. IsShellOf (get_or rings k []) (get_or outlines k []) s) (sym p) at;
    }

-- the heads of the first n rings
pub record AreHeadsBelow (shells : List Shell) (outlines : List (List Point)) (n : ℕ) (heads : List ℕ) : Type 0 where
  pub count : length heads ≡ n
  pub each : (k : ℕ) → k < n → IsHead shells (get_or outlines k []) k (slice_index heads k)

pub head_added : (shells : List Shell) (outlines : List (List Point)) (place head : ℕ) (outline : List Point) (old new : List ℕ) → AreHeadsBelow shells outlines place old → outline ≡ get_or outlines place [] → IsHead shells outline place head → new ≡ old ++ head ∷ [] → AreHeadsBelow shells outlines (place + 1) new
head_added shells outlines place head outline old new are o is n =
    subst (λ heads. AreHeadsBelow shells outlines (place + 1) heads) (sym n) (record {
      count = length_push old head ∙ ap (λ k. k + 1) are.count;
      each = λ k h. elim (below_next k place h) [
        | inl l ↦ subst (λ j. IsHead shells (get_or outlines k []) k j) (sym (get_or_append_left old (head ∷ []) 0 k (omega (arith, are.count)))) (are.each k l)
        | inr e ↦
            let at = subst (λ l. IsHead shells l place head) o is in
            let here = subst (λ j. IsHead shells (get_or outlines place []) place j) (sym (get_or_push old head 0 place are.count)) at in
            subst (λ j. IsHead shells (get_or outlines j []) j (get_or (old ++ head ∷ []) j 0)) (sym e) here
      ];
    })

pub heads_all : (shells : List Shell) (outlines : List (List Point)) (n : ℕ) (heads : List ℕ) → length outlines ≡ n → AreHeadsBelow shells outlines n heads → AreHeadsOf shells outlines heads
heads_all shells outlines n heads e are = record { count = are.count ∙ sym e; each = λ k h. are.each k (omega (arith, e)) }
