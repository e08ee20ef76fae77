-- Sets that links join inside regions, and one area for each.
use Rattle.std.proofs.Common.{◌≡◌, ◌≢◌, ℕ, zero, suc, ◌+◌, ◌<◌, ◌≤◌, List, [], ◌∷◌, take, length, refl, ap, sym, ◌∙◌, arith, subst, inl, inr, zero-add, suc-add, add-one, eqb}
use Rattle.std.specs.Prelude.{slice_index, slice_index_or, ◌↔◌, false}
use Rattle.std.specs.List.{Contains, IsDistinct}
use Rattle.std.specs.List.Sorted.{IsPermutation, IsNonDecreasingBy}
use Rattle.std.proofs.lemmas.Bool.{cases_eq, cases_lt}
use Rattle.std.proofs.lemmas.Bool.Decides.{nat_tests, Decides-eqb}
use Rattle.std.proofs.lemmas.List.{get_or-take, length-take, get_or_default}
use Rattle.std.proofs.lemmas.List.Sorted.{IsPermutation-sym, Contains-permutation}
use Rattle.std.proofs.lemmas.Map.Keys.{IsDistinct-from_apart, IsDistinct-IsPermutation, apart_from_distinct}
use Rattle.union_find.specs.Sets.{IsPaired, Walk as PairWalk, AreSets}
use Rattle.union_find.proofs.SetLemmas.{contains_first, contains_later, contains_cases, contains_none, set_itself, set_back, one_least, sets_law}
use Rattle.agg_model.specs.Problem.{Problem, Grouping, Walk, AreLinked, areas, low_of, high_of, region}
use Rattle.agg_model.specs.Lacks.{IsFilled, IsJoined}
use Rattle.agg_model.specs.Tops.{InOneRegion, AreHeads, AreFront, AreTops, IsWhole}
use Rattle.agg_model.proofs.PartLemmas.{linked_back}

-- ---- walks inside a region

walk_along : (p : Problem) (g : Grouping) (r u v w : ℕ) (n m : ℕ) → Walk p g r v u n → Walk p g r w v m → Walk p g r w u (n + m)
walk_along p g r u v w zero m h k = subst (λ (x : ℕ). Walk p g r w x (0 + m)) (sym h) (rw zero-add k)
walk_along p g r u v w (suc n) m h k = rw suc-add (h.0, h.1, h.2, walk_along p g r h.0 v w n m h.3 k)

walk_back : (p : Problem) (g : Grouping) (r u v : ℕ) (n : ℕ) → region g u ≡ r → Walk p g r v u n → Walk p g r u v n
walk_back p g r u v zero e h = sym h
walk_back p g r u v (suc n) e h =
    let last : Walk p g r u h.0 1 = (u, linked_back p u h.0 h.1, e, refl) in
    subst (λ (m : ℕ). Walk p g r u v m) (add-one n) (walk_along p g r v h.0 u n 1 (walk_back p g r h.0 v n h.2 h.3) last)

-- a walk inside a region stays in it
walk_stays : (p : Problem) (g : Grouping) (r u v n : ℕ) → region g u ≡ r → Walk p g r v u n → region g v ≡ r
walk_stays p g r u v zero e h = subst (λ (x : ℕ). region g x ≡ r) h e
walk_stays p g r u v (suc n) e h = walk_stays p g r h.0 v n h.2 h.3

-- ---- the links inside regions as pairs

-- the pairs are those of the first n links that join areas of one region
pub record AreInnerPairs (p : Problem) (g : Grouping) (n : ℕ) (pairs : List (ℕ × ℕ)) : Type 0 where
  pub all : (l : ℕ) → l < n → region g (low_of p l) ≡ region g (high_of p l) → Contains pairs (low_of p l, high_of p l)
  pub only : (u v : ℕ) → Contains pairs (u, v) → (l : ℕ) × (l < n) × (low_of p l ≡ u) × (high_of p l ≡ v) × (region g u ≡ region g v)

pub no_inner_pairs : (p : Problem) (g : Grouping) → AreInnerPairs p g 0 []
no_inner_pairs p g = record {
  all = λ l h e. absurd (omega arith);
  only = λ u v c. contains_none (u, v) c;
}

pub inner_pairs_more : (p : Problem) (g : Grouping) (n : ℕ) (pairs : List (ℕ × ℕ)) → region g (low_of p n) ≡ region g (high_of p n) → AreInnerPairs p g n pairs → AreInnerPairs p g (n + 1) ((low_of p n, high_of p n) ∷ pairs)
inner_pairs_more p g n pairs same h = record {
  all = λ l b e.
      elim (cases_eq l n) [
        | inl q ↦ subst (λ (m : ℕ). Contains ((low_of p n, high_of p n) ∷ pairs) (low_of p m, high_of p m)) (sym q) (contains_first pairs (low_of p n, high_of p n))
        | inr ne ↦ contains_later pairs _ _ (h.all l (omega arith) e)
      ];
  only = λ u v c.
      elim (contains_cases pairs (low_of p n, high_of p n) (u, v) c) [
        | inl e ↦
            let low = ap (λ (x : ℕ × ℕ). x.0) e in
            let high = ap (λ (x : ℕ × ℕ). x.1) e in
            (n, omega arith, low, high, ap (region g) (sym low) ∙ (same ∙ ap (region g) high))
        | inr k ↦ (let is = h.only u v k in let b = is.1 in (is.0, omega arith, is.2, is.3, is.4))
      ];
}

pub inner_pairs_same : (p : Problem) (g : Grouping) (n : ℕ) (pairs : List (ℕ × ℕ)) → region g (low_of p n) ≢ region g (high_of p n) → AreInnerPairs p g n pairs → AreInnerPairs p g (n + 1) pairs
inner_pairs_same p g n pairs apart h = record {
  all = λ l b e.
      elim (cases_eq l n) [
        | inl q ↦ absurd (apart (subst (λ (m : ℕ). region g (low_of p m) ≡ region g (high_of p m)) q e))
        | inr ne ↦ h.all l (omega arith) e
      ];
  only = λ u v c. (let is = h.only u v c in let b = is.1 in (is.0, omega arith, is.2, is.3, is.4));
}

linked_of_paired : (p : Problem) (g : Grouping) (pairs : List (ℕ × ℕ)) → AreInnerPairs p g (length p.links) pairs → (u v : ℕ) → IsPaired pairs u v → AreLinked p u v × (region g u ≡ region g v)
linked_of_paired p g pairs are u v h =
    elim h [
      | inl c ↦ (let is = are.only u v c in ((is.0, is.1, inl (is.2, is.3)), is.4))
      | inr c ↦ (let is = are.only v u c in ((is.0, is.1, inr (is.2, is.3)), sym is.4))
    ]

paired_of_linked : (p : Problem) (g : Grouping) (pairs : List (ℕ × ℕ)) → AreInnerPairs p g (length p.links) pairs → (u v : ℕ) → AreLinked p u v → region g u ≡ region g v → IsPaired pairs u v
paired_of_linked p g pairs are u v h same =
    let l = h.0 in
    elim h.2 [
      | inl e ↦ (let here = are.all l h.1 (ap (region g) e.0 ∙ (same ∙ sym (ap (region g) e.1))) in inl (rw (← e.0, ← e.1) here))
      | inr e ↦ (let here = are.all l h.1 (ap (region g) e.0 ∙ (sym same ∙ sym (ap (region g) e.1))) in inr (rw (← e.0, ← e.1) here))
    ]

walk_of_pairs : (p : Problem) (g : Grouping) (pairs : List (ℕ × ℕ)) → AreInnerPairs p g (length p.links) pairs → (r v u n : ℕ) → region g u ≡ r → PairWalk pairs v u n → Walk p g r v u n
walk_of_pairs p g pairs are r v u zero e h = h
walk_of_pairs p g pairs are r v u (suc n) e h =
    let linked = linked_of_paired p g pairs are u h.0 h.1 in
    let in_region : region g h.0 ≡ r = sym linked.1 ∙ e in
    (h.0, linked.0, in_region, walk_of_pairs p g pairs are r v h.0 n in_region h.2)

pairs_of_walk : (p : Problem) (g : Grouping) (pairs : List (ℕ × ℕ)) → AreInnerPairs p g (length p.links) pairs → (r v u n : ℕ) → region g u ≡ r → Walk p g r v u n → PairWalk pairs v u n
pairs_of_walk p g pairs are r v u zero e h = h
pairs_of_walk p g pairs are r v u (suc n) e h = (h.0, paired_of_linked p g pairs are u h.0 h.1 (e ∙ sym h.2), pairs_of_walk p g pairs are r v h.0 n h.2 h.3)

-- the sets that these links join are those of walks inside regions
pub sets_are_heads : (p : Problem) (g : Grouping) (pairs : List (ℕ × ℕ)) (heads : List ℕ) → AreInnerPairs p g (length p.links) pairs → AreSets pairs heads → length heads ≡ areas p → AreHeads p g heads
sets_are_heads p g pairs heads are sets long = record {
  one_each = long;
  down = λ v h. sets.least v v (omega arith) (set_itself pairs v v refl);
  walks = λ u v hu hv. (
    λ e. (let way = (sets_law pairs heads sets u v (omega arith) (omega arith)).0 e in (way.0, walk_of_pairs p g pairs are (region g u) v u way.0 refl way.1)),
    λ way. one_least pairs heads sets u v (omega arith) (omega arith) (way.0, pairs_of_walk p g pairs are (region g u) v u way.0 refl way.1),
  );
  tops = λ v h.
      let k : v < length heads = omega arith in
      let down = sets.least v v k (set_itself pairs v v refl) in
      one_least pairs heads sets (slice_index heads v) v (omega arith) k (set_back pairs v (slice_index heads v) (sets.joined v k));
}

-- ---- numbers that stand at their own places go to the front

pub nothing_in_front : (heads : ℕ → ℕ) (front : ℕ → ℕ) → AreFront heads 0 0 front
nothing_in_front heads front = record {
  few = omega arith;
  tops = λ i h. absurd (omega arith);
  all = λ v h e. absurd (omega arith);
  rising = λ i j lt h. absurd (omega arith);
}

-- a number that stands elsewhere stays behind
pub front_same : (heads front : ℕ → ℕ) (n count : ℕ) → heads n ≢ n → AreFront heads n count front → AreFront heads (n + 1) count front
front_same heads front n count ne h =
    let few = h.few in
    record {
      few = omega arith;
      tops = λ i q. (let t = h.tops i q in let b = t.0 in (omega arith, t.1));
      all = λ v q e.
          elim (cases_eq v n) [
            | inl s ↦ absurd (ne (subst (λ (w : ℕ). heads w ≡ w) s e))
            | inr other ↦ h.all v (omega arith) e
          ];
      rising = h.rising;
    }

-- one that stands at its place comes last at the front
pub front_more : (heads front new : ℕ → ℕ) (n count : ℕ) → heads n ≡ n → new count ≡ n → ((i : ℕ) → i < count → new i ≡ front i) → AreFront heads n count front → AreFront heads (n + 1) (count + 1) new
front_more heads front new n count top last old h =
    let few = h.few in
    record {
      few = omega arith;
      tops = λ i q.
          elim (cases_lt i count) [
            | inl less ↦
                (let t = h.tops i less in
                let b = t.0 in
                let e = old i less in
                (omega arith, subst (λ (x : ℕ). heads x ≡ x) (sym e) t.1))
            | inr more ↦
                (let e : i ≡ count = omega arith in
                let is : new i ≡ n = ap new e ∙ last in
                (omega arith, subst (λ (x : ℕ). heads x ≡ x) (sym is) top))
          ];
      all = λ v q e.
          elim (cases_eq v n) [
            | inl s ↦ (count, omega arith, last ∙ sym s)
            | inr other ↦ (let a = h.all v (omega arith) e in let b = a.1 in (a.0, omega arith, old a.0 a.1 ∙ a.2))
          ];
      rising = λ i j lt q.
          elim (cases_lt j count) [
            | inl less ↦ (let r = h.rising i j lt less in let e = old i (omega arith) in let f = old j less in omega arith)
            | inr more ↦
                (let s : j ≡ count = omega arith in
                let is : new j ≡ n = ap new s ∙ last in
                let e = old i (omega arith) in
                let b = (h.tops i (omega arith)).0 in
                omega arith)
          ];
    }

-- ---- one area for each set

contained : (xs : List ℕ) (i : ℕ) → i < length xs → Contains xs (slice_index xs i)
contained xs i h = (i, h, get_or_default xs i (slice_index xs i) 0 h)

place_of : (xs : List ℕ) (x : ℕ) → Contains xs x → (i : ℕ) × (i < length xs) × (slice_index xs i ≡ x)
place_of xs x c = (c.0, c.1, sym (get_or_default xs c.0 x 0 c.1) ∙ c.2)

-- what stood at the front, in any order, is one area of each set
pub front_is_tops : (p : Problem) (g : Grouping) (heads front : List ℕ) (count : ℕ) (ys : List ℕ) → AreHeads p g heads → length front ≡ length heads → AreFront (slice_index heads) (length heads) count (slice_index front) → IsPermutation (take count front) ys → AreTops p g ys
front_is_tops p g heads front count ys are long is moved = record {
  within = λ i h. (let t = (from_front i h).0 in let n = are.one_each in omega arith);
  all = λ v h.
      let n = are.one_each in
      let down = are.down v h in
      let place = is.all (slice_index heads v) (omega arith) (are.tops v h) in
      let b = place.1 in
      let at : slice_index (take count front) place.0 ≡ slice_index heads v = get_or-take count front place.0 0 place.1 ∙ place.2 in
      let inside : place.0 < length (take count front) = (let l = long_front in omega arith) in
      let here = place_of ys (slice_index heads v) (Contains-permutation (take count front) ys (slice_index heads v) moved (subst (Contains (take count front)) at (contained (take count front) place.0 inside))) in
      let top : slice_index heads (slice_index ys here.0) ≡ slice_index heads v = ap (slice_index heads) here.2 ∙ are.tops v h in
      let below : slice_index ys here.0 < areas p = (let e = here.2 in omega arith) in
      (here.0, here.1, (are.walks v (slice_index ys here.0) h below).0 (sym top));
  apart = λ i j lt h way.
      let n = are.one_each in
      let a = from_front i (omega arith) in
      let b = from_front j h in
      let ai = a.0 in
      let bi = b.0 in
      let one : slice_index heads (slice_index ys i) ≡ slice_index heads (slice_index ys j) = (are.walks (slice_index ys i) (slice_index ys j) (omega arith) (omega arith)).1 way in
      let same : slice_index ys i ≡ slice_index ys j = sym a.1 ∙ (one ∙ b.1) in
      let test = apart_from_distinct eqb ys i j 0 distinct lt h in
      let yes = (Decides-eqb (slice_index ys i) (slice_index ys j)).1 same in
      cc;
}
  where
    long_front : length (take count front) ≡ count
    long_front = let l = length-take count front in let f = is.few in omega arith

    from_front : (i : ℕ) → i < length ys → (slice_index ys i < length heads) × (slice_index heads (slice_index ys i) ≡ slice_index ys i)
    from_front i h =
        let back = place_of (take count front) (slice_index ys i) (Contains-permutation ys (take count front) (slice_index ys i) (IsPermutation-sym (take count front) ys moved) (contained ys i h)) in
        let l = long_front in
        let b = back.1 in
        let less : back.0 < count = omega arith in
        let t = is.tops back.0 less in
        let same : slice_index front back.0 ≡ slice_index ys i = sym (get_or-take count front back.0 0 less) ∙ back.2 in
        (subst (λ (x : ℕ). x < length heads) same t.0, subst (λ (x : ℕ). slice_index heads x ≡ x) same t.1)

    distinct : IsDistinct eqb ys
    distinct =
        IsDistinct-IsPermutation eqb (λ x y. grind (arith, nat_tests)) (take count front) ys moved
        (IsDistinct-from_apart eqb (take count front) (λ i j d lt h.
        let l = long_front in
        let a : slice_index_or (take count front) i d ≡ slice_index front i = get_or_default (take count front) i d 0 (omega arith) ∙ get_or-take count front i 0 (omega arith) in
        let b : slice_index_or (take count front) j d ≡ slice_index front j = get_or_default (take count front) j d 0 h ∙ get_or-take count front j 0 (omega arith) in
        let less = is.rising i j lt (omega arith) in
        rw (a, b) (grind (arith, nat_tests))))

-- ---- each region has one top

-- so far each region has its top at its own place
pub record IsUpTo (g : Grouping) (tops : List ℕ) (r : ℕ) : Type 0 where
  pub each : (i : ℕ) → i < r → (i < length tops) × (region g (slice_index tops i) ≡ i)
  pub next : r < length tops → r ≤ region g (slice_index tops r)

-- there is a top at the place, and it is of region r
abbrev pub IsTopAt : Grouping → List ℕ → ℕ → ℕ → Type 0
IsTopAt g tops at r = (at < length tops) × (region g (slice_index tops at) ≡ r)

pub up_to_none : (g : Grouping) (tops : List ℕ) → IsUpTo g tops 0
up_to_none g tops = record { each = λ i h. absurd (omega arith); next = λ h. omega arith }

pub up_to_more : (g : Grouping) (tops : List ℕ) (r : ℕ) → IsNonDecreasingBy (region g) tops → IsUpTo g tops r → IsTopAt g tops r r → ¬ IsTopAt g tops (r + 1) r → IsUpTo g tops (r + 1)
up_to_more g tops r sorted was here none = record {
  each = λ i h.
      elim (cases_lt i r) [
        | inl less ↦ was.each i less
        | inr more ↦ (let e : r ≡ i = omega arith in subst (λ (x : ℕ). IsTopAt g tops x x) e here)
      ];
  next = λ h.
      let up = sorted r (r + 1) 0 (omega arith) h in
      let is = here.1 in
      elim (cases_eq (region g (slice_index tops (r + 1))) r) [
        | inl e ↦ absurd (none (h, e))
        | inr ne ↦ omega arith
      ];
}

-- only the top at the place of a region is of that region
only_top : (g : Grouping) (tops : List ℕ) (r s i : ℕ) → IsNonDecreasingBy (region g) tops → IsUpTo g tops r → s < r → i < length tops → region g (slice_index tops i) ≡ s → i ≡ s
only_top g tops r s i sorted was less h e =
    elim (cases_lt i r) [
      | inl before ↦ (let is = (was.each i before).1 in omega arith)
      | inr behind ↦
          (let next = was.next (omega arith) in
          let up = sorted r i 0 behind h in
          absurd (omega arith))
    ]

-- each region so far is whole
pub whole_below : (p : Problem) (g : Grouping) (tops : List ℕ) (r : ℕ) → AreTops p g tops → IsNonDecreasingBy (region g) tops → IsUpTo g tops r → (s : ℕ) → s < r → IsWhole p g s
whole_below p g tops r are sorted was s less =
    let here = was.each s less in (
      (slice_index tops s, are.within s here.0, here.1),
      λ u v hu hv eu ev.
          let a = to_top u hu eu in
          let b = to_top v hv ev in
          (a.0 + b.0, walk_along p g s u (slice_index tops s) v a.0 b.0 a.1 (walk_back p g s v (slice_index tops s) b.0 ev b.1)),
    )
  where
    to_top : (u : ℕ) → u < areas p → region g u ≡ s → (n : ℕ) × Walk p g s (slice_index tops s) u n
    to_top u hu eu =
        let top = are.all u hu in
        let way : Walk p g s (slice_index tops top.0) u top.2.0 = subst (λ (x : ℕ). Walk p g x (slice_index tops top.0) u top.2.0) eu top.2.1 in
        let same : top.0 ≡ s = only_top g tops r s top.0 sorted was less top.1 (walk_stays p g s u (slice_index tops top.0) top.2.0 eu way) in
        (top.2.0, subst (λ (x : ℕ). Walk p g s (slice_index tops x) u top.2.0) same way)

-- a region without a top at its place has no area
pub empty_at : (p : Problem) (g : Grouping) (tops : List ℕ) (r : ℕ) → AreTops p g tops → IsNonDecreasingBy (region g) tops → IsUpTo g tops r → ¬ IsTopAt g tops r r → ¬ IsFilled p g r
empty_at p g tops r are sorted was none filled =
    let top = are.all filled.0 filled.1 in
    let i = top.0 in
    let h = top.1 in
    let e : region g (slice_index tops i) ≡ r = walk_stays p g (region g filled.0) filled.0 (slice_index tops i) top.2.0 refl top.2.1 ∙ filled.2 in
    elim (cases_lt i r) [
      | inl before ↦ (let is = (was.each i before).1 in absurd (omega arith))
      | inr behind ↦
          (let there : r < length tops = omega arith in
          let next = was.next there in
          let up = sorted r i 0 behind h in
          none (there, omega arith))
    ]

-- a region with two tops is not joined
pub loose_at : (p : Problem) (g : Grouping) (tops : List ℕ) (r : ℕ) → AreTops p g tops → IsTopAt g tops r r → IsTopAt g tops (r + 1) r → IsFilled p g r × ¬ IsJoined p g r
loose_at p g tops r are here next = (
  (slice_index tops r, are.within r here.0, here.1),
  λ joined.
      are.apart r (r + 1) (omega arith) next.0
      (let way = joined (slice_index tops r) (slice_index tops (r + 1)) (are.within r here.0) (are.within (r + 1) next.0) here.1 next.1 in
      (way.0, subst (λ (x : ℕ). Walk p g x (slice_index tops (r + 1)) (slice_index tops r) way.0) (sym here.1) way.1)),
)
