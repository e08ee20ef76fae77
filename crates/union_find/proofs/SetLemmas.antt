-- Sets that pairs join.
use Rattle.std.proofs.Common.{◌≡◌, ℕ, zero, suc, ◌+◌, ◌<◌, ◌≤◌, ◌⊎◌, List, [], ◌∷◌, length, refl, ap, sym, ◌∙◌, arith, subst, inl, inr, min, max, zero-add, suc-add, add-one, map}
use Rattle.std.specs.Prelude.{slice_index, slice_index_or}
use Rattle.std.specs.List.{Contains, range_with_len}
use Rattle.std.proofs.lemmas.List.{length-map, get_or-map}
use Rattle.std.proofs.lemmas.List.FromFn.{length-range_with_len}
use Rattle.union_find.specs.Sets.{IsPaired, Walk, InOneSet, AreSets, SetsLaw}
use Rattle.union_find.specs.Steps.{merge, LeadsDown, IsForest, top_at, tops}
use Rattle.union_find.proofs.StepLemmas.{merge_tells, merge_both, merge_at_most, of_either, alone, apart_forest}
use Rattle.union_find.proofs.TopLemmas.{length-tops, tops_at, tops_are}

-- ---- one more pair

pub contains_first : {X : Type 0} (xs : List X) (x : X) → Contains (x ∷ xs) x
contains_first xs x = (0, omega arith, refl)

pub contains_later : {X : Type 0} (xs : List X) (y x : X) → Contains xs x → Contains (y ∷ xs) x
contains_later xs y x h = (suc h.0, (let l = h.1 in omega arith), h.2)

pub contains_cases : {X : Type 0} (xs : List X) (y x : X) → Contains (y ∷ xs) x → (y ≡ x) ⊎ Contains xs x
contains_cases xs y x h = cases xs y x h.0 h.1 h.2
  where
    cases : {X : Type 0} (xs : List X) (y x : X) (k : ℕ) → k < length (y ∷ xs) → slice_index_or (y ∷ xs) k x ≡ x → (y ≡ x) ⊎ Contains xs x
    cases xs y x zero h e = inl e
    cases xs y x (suc k) h e = inr (k, omega arith, e)

pub contains_none : {X : Type 0} {P : Type 0} (x : X) → Contains [] x → P
contains_none x h = absurd (let l = h.1 in omega arith)

-- ---- walks

walk_along : (pairs : List (ℕ × ℕ)) (u v w : ℕ) (n m : ℕ) → Walk pairs v u n → Walk pairs w v m → Walk pairs w u (n + m)
walk_along pairs u v w zero m h k = subst (λ (x : ℕ). Walk pairs w x (0 + m)) (sym h) (rw zero-add k)
walk_along pairs u v w (suc n) m h k = rw suc-add (h.0, h.1, walk_along pairs h.0 v w n m h.2 k)

paired_back : (pairs : List (ℕ × ℕ)) (u v : ℕ) → IsPaired pairs u v → IsPaired pairs v u
paired_back pairs u v h = elim h [ inl e ↦ inr e | inr e ↦ inl e ]

walk_back : (pairs : List (ℕ × ℕ)) (u v n : ℕ) → Walk pairs v u n → Walk pairs u v n
walk_back pairs u v zero h = sym h
walk_back pairs u v (suc n) h =
    let last : Walk pairs u h.0 1 = (u, paired_back pairs u h.0 h.1, refl) in
    subst (λ (m : ℕ). Walk pairs u v m) (add-one n) (walk_along pairs v h.0 u n 1 (walk_back pairs h.0 v n h.2) last)

pub set_itself : (pairs : List (ℕ × ℕ)) (u v : ℕ) → u ≡ v → InOneSet pairs u v
set_itself pairs u v e = (0, e)

pub set_back : (pairs : List (ℕ × ℕ)) (u v : ℕ) → InOneSet pairs u v → InOneSet pairs v u
set_back pairs u v h = (h.0, walk_back pairs u v h.0 h.1)

pub set_along : (pairs : List (ℕ × ℕ)) (u v w : ℕ) → InOneSet pairs u v → InOneSet pairs v w → InOneSet pairs u w
set_along pairs u v w h k = (h.0 + k.0, walk_along pairs u v w h.0 k.0 h.1 k.1)

pub set_step : (pairs : List (ℕ × ℕ)) (u v : ℕ) → IsPaired pairs u v → InOneSet pairs u v
set_step pairs u v h = (1, (v, h, refl))

paired_more : (pairs : List (ℕ × ℕ)) (p : ℕ × ℕ) (u v : ℕ) → IsPaired pairs u v → IsPaired (p ∷ pairs) u v
paired_more pairs p u v h = elim h [ inl e ↦ inl (contains_later pairs p (u, v) e) | inr e ↦ inr (contains_later pairs p (v, u) e) ]

walk_more : (pairs : List (ℕ × ℕ)) (p : ℕ × ℕ) (u v n : ℕ) → Walk pairs v u n → Walk (p ∷ pairs) v u n
walk_more pairs p u v zero h = h
walk_more pairs p u v (suc n) h = (h.0, paired_more pairs p u h.0 h.1, walk_more pairs p h.0 v n h.2)

pub set_more : (pairs : List (ℕ × ℕ)) (p : ℕ × ℕ) (u v : ℕ) → InOneSet pairs u v → InOneSet (p ∷ pairs) u v
set_more pairs p u v h = (h.0, walk_more pairs p u v h.0 h.1)

-- ---- what the least members tell

least_low : (pairs : List (ℕ × ℕ)) (least : List ℕ) → AreSets pairs least → (v : ℕ) → v < length least → slice_index least v ≤ v
least_low pairs least sets v h = sets.least v v h (set_itself pairs v v refl)

-- members of one set have one least member
pub one_least : (pairs : List (ℕ × ℕ)) (least : List ℕ) → AreSets pairs least → (u v : ℕ) → u < length least → v < length least → InOneSet pairs u v → slice_index least u ≡ slice_index least v
one_least pairs least sets u v hu hv way =
    let a = sets.least (slice_index least v) u hu (set_along pairs u v (slice_index least v) way (sets.joined v hv)) in
    let b = sets.least (slice_index least u) v hv (set_along pairs v u (slice_index least u) (set_back pairs u v way) (sets.joined u hu)) in
    omega arith

pub sets_law : SetsLaw
sets_law pairs least sets u v hu hv = (
  λ e.
      let back : InOneSet pairs (slice_index least v) v = set_back pairs v (slice_index least v) (sets.joined v hv) in
      set_along pairs u (slice_index least u) v (sets.joined u hu) (subst (λ (m : ℕ). InOneSet pairs m v) (sym e) back),
  one_least pairs least sets u v hu hv,
)

-- ---- two sets are joined

-- at one end of a pair's sets
abbrev NearPair : List (ℕ × ℕ) → ℕ → ℕ → ℕ → Type 0
NearPair pairs a b u = InOneSet pairs u a ⊎ InOneSet pairs u b

-- a walk along one more pair stays in a set, or leads from one of that pair's sets to one of them
crossing : (pairs : List (ℕ × ℕ)) (a b u v n : ℕ) → Walk ((a, b) ∷ pairs) v u n → InOneSet pairs u v ⊎ (NearPair pairs a b u × NearPair pairs a b v)
crossing pairs a b u v zero h = inl (0, h)
crossing pairs a b u v (suc n) h =
    let s = h.0 in
    let rest = crossing pairs a b s v n h.2 in
    elim h.1 [
      | inl c ↦
          elim (contains_cases pairs (a, b) (u, s) c) [
            | inl e ↦ across a b u s (inl (set_itself pairs u a (sym (ap (λ (p : ℕ × ℕ). p.0) e)))) (inr (set_itself pairs s b (sym (ap (λ (p : ℕ × ℕ). p.1) e)))) v rest
            | inr k ↦ within a b u s (set_step pairs u s (inl k)) v rest
          ]
      | inr c ↦
          elim (contains_cases pairs (a, b) (s, u) c) [
            | inl e ↦ across a b u s (inr (set_itself pairs u b (sym (ap (λ (p : ℕ × ℕ). p.1) e)))) (inl (set_itself pairs s a (sym (ap (λ (p : ℕ × ℕ). p.0) e)))) v rest
            | inr k ↦ within a b u s (set_step pairs u s (inr k)) v rest
          ]
    ]
  where
    near_along : (a b u s : ℕ) → InOneSet pairs u s → NearPair pairs a b s → NearPair pairs a b u
    near_along a b u s way near = elim near [ inl e ↦ inl (set_along pairs u s a way e) | inr e ↦ inr (set_along pairs u s b way e) ]

    within : (a b u s : ℕ) → InOneSet pairs u s → (v : ℕ) → InOneSet pairs s v ⊎ (NearPair pairs a b s × NearPair pairs a b v) → InOneSet pairs u v ⊎ (NearPair pairs a b u × NearPair pairs a b v)
    within a b u s way v rest = elim rest [ inl e ↦ inl (set_along pairs u s v way e) | inr e ↦ inr (near_along a b u s way e.0, e.1) ]

    across : (a b u s : ℕ) → NearPair pairs a b u → NearPair pairs a b s → (v : ℕ) → InOneSet pairs s v ⊎ (NearPair pairs a b s × NearPair pairs a b v) → InOneSet pairs u v ⊎ (NearPair pairs a b u × NearPair pairs a b v)
    across a b u s here there v rest = elim rest [ inl e ↦ inr (here, near_along a b v s (set_back pairs s v e) there) | inr e ↦ inr (here, e.1) ]

-- near a pair, all have one label once its labels are merged
near_label : (pairs : List (ℕ × ℕ)) (least : List ℕ) → AreSets pairs least → (a b u : ℕ) → a < length least → b < length least → u < length least → NearPair pairs a b u
    → merge (slice_index least a) (slice_index least b) (slice_index least u) ≡ merge (slice_index least a) (slice_index least b) (slice_index least a)
near_label pairs least sets a b u ha hb hu near =
    let x = slice_index least a in
    let y = slice_index least b in
    elim near [
      | inl e ↦ ap (merge x y) (one_least pairs least sets u a hu ha e)
      | inr e ↦ ap (merge x y) (one_least pairs least sets u b hu hb e) ∙ sym (merge_both x y)
    ]

-- where the labels of a and b become the lesser of them, one more pair joins the sets
pub sets_merged : (pairs : List (ℕ × ℕ)) (old new : List ℕ) (a b : ℕ) → AreSets pairs old → a < length old → b < length old → length new ≡ length old
    → ((v : ℕ) → v < length old → slice_index new v ≡ merge (slice_index old a) (slice_index old b) (slice_index old v)) → AreSets ((a, b) ∷ pairs) new
sets_merged pairs old new a b sets ha hb long is = record {
  joined = λ v h. (let k : v < length old = omega arith in subst (λ (m : ℕ). InOneSet more v m) (sym (is v k)) (to_merged v k));
  least = λ u v h way. (let k : v < length old = omega arith in low u v k way);
}
  where
    more : List (ℕ × ℕ)
    more = (a, b) ∷ pairs

    x : ℕ
    x = slice_index old a

    y : ℕ
    y = slice_index old b

    -- the two labels are joined
    ends : InOneSet more x y
    ends =
        let first = set_more pairs (a, b) x a (set_back pairs a x (sets.joined a ha)) in
        let middle : InOneSet more a b = set_step more a b (inl (contains_first pairs (a, b))) in
        let last = set_more pairs (a, b) b y (sets.joined b hb) in
        set_along more x a y first (set_along more a b y middle last)

    to_merged : (v : ℕ) → v < length old → InOneSet more v (merge x y (slice_index old v))
    to_merged v k =
        let here = set_more pairs (a, b) v (slice_index old v) (sets.joined v k) in
        elim (merge_tells x y (slice_index old v)) [
          | inl h ↦
              let both = of_either (λ m. InOneSet more m x) x y (set_itself more x x refl) (set_back more x y ends) in
              let down : InOneSet more (max x y) (min x y) = set_along more (max x y) x (min x y) both.0 (set_back more (min x y) x both.1) in
              subst (λ (m : ℕ). InOneSet more v m) (sym h.1) (set_along more v (slice_index old v) (min x y) here (subst (λ (m : ℕ). InOneSet more m (min x y)) (sym h.0) down))
          | inr h ↦ subst (λ (m : ℕ). InOneSet more v m) (sym h.1) here
        ]

    low : (u v : ℕ) → v < length old → InOneSet more v u → slice_index new v ≤ u
    low u v k way =
        let e = is v k in
        elim (crossing pairs a b v u way.0 way.1) [
          | inl same ↦ (let l = sets.least u v k same in let m = merge_at_most x y (slice_index old v) in omega arith)
          | inr near ↦
              let here = near_label pairs old sets a b v ha hb k near.0 in
              let m = merge_at_most x y x in
              let n = merge_at_most x y y in
              let q = merge_both x y in
              elim near.1 [
                | inl w ↦ (let l = sets.least u a ha (set_back pairs u a w) in omega arith)
                | inr w ↦ (let l = sets.least u b hb (set_back pairs u b w) in omega arith)
              ]
        ]

-- ---- the forest's lists

walk_of_none : (v u n : ℕ) → Walk [] v u n → u ≡ v
walk_of_none v u zero h = h
walk_of_none v u (suc n) h = elim h.1 [ inl c ↦ contains_none (u, h.0) c | inr c ↦ contains_none (h.0, u) c ]

-- members alone are joined by no pair
pub sets_alone : (n : ℕ) → AreSets [] (tops (range_with_len 0 n))
sets_alone n = record {
  joined = λ v h. set_itself [] v _ (sym (at v h));
  least = λ u v h way. (let e = at v h in let s = walk_of_none u v way.0 way.1 in omega arith);
}
  where
    at : (v : ℕ) → v < length (tops (range_with_len 0 n)) → slice_index (tops (range_with_len 0 n)) v ≡ v
    at v h = tops_are (range_with_len 0 n) (λ v. v) (alone n) v (subst (λ (m : ℕ). v < m) (length-tops (range_with_len 0 n)) h)

-- members that lead to themselves are joined by no pair
pub sets_apart : (f : List ℕ) → ((v : ℕ) → v < length f → slice_index f v ≡ v) → AreSets [] (tops f)
sets_apart f apart = record {
  joined = λ v h. set_itself [] v _ (sym (at v h));
  least = λ u v h way. (let e = at v h in let s = walk_of_none u v way.0 way.1 in omega arith);
}
  where
    at : (v : ℕ) → v < length (tops f) → slice_index (tops f) v ≡ v
    at v h = tops_are f (λ v. v) (apart_forest f apart) v (subst (λ (m : ℕ). v < m) (length-tops f) h)

-- where no pair joins, each member is the least of its set
pub least_alone : (heads : List ℕ) → AreSets [] heads → (v : ℕ) → v < length heads → slice_index heads v ≡ v
least_alone heads sets v h = (let way = sets.joined v h in sym (walk_of_none (slice_index heads v) v way.0 way.1))

-- any pairs of members join some sets
pub some_sets : (n : ℕ) (pairs : List (ℕ × ℕ)) → ((i j : ℕ) → Contains pairs (i, j) → (i < n) × (j < n)) → (heads : List ℕ) × (length heads ≡ n) × AreSets pairs heads
some_sets n [] inside = (tops (range_with_len 0 n), length-tops (range_with_len 0 n) ∙ length-range_with_len 0 n, sets_alone n)
some_sets n ((a, b) ∷ pairs) inside =
    let before = some_sets n pairs (λ i j c. inside i j (contains_later pairs (a, b) (i, j) c)) in
    let ends = inside a b (contains_first pairs (a, b)) in
    let old = before.0 in
    let new = map (merge (slice_index old a) (slice_index old b)) old in
    let long : length new ≡ length old = length-map old (merge (slice_index old a) (slice_index old b)) in
    let long_before = before.1 in (
      new,
      long ∙ before.1,
      sets_merged pairs old new a b before.2 (omega arith) (omega arith) long (λ v h. get_or-map (merge (slice_index old a) (slice_index old b)) old v 0 0 h),
    )

-- the labels of a list whose labels were merged
pub tops_merged : (old new : List ℕ) (a b : ℕ) → length new ≡ length old → a < length old → b < length old
    → IsForest (λ v. merge (top_at old a) (top_at old b) (top_at old v)) new → (v : ℕ) → v < length (tops old) → slice_index (tops new) v ≡ merge (slice_index (tops old) a) (slice_index (tops old) b) (slice_index (tops old) v)
tops_merged old new a b long ha hb forest v h =
    let k : v < length old = subst (λ (m : ℕ). v < m) (length-tops old) h in
    rw (tops_at old a ha, tops_at old b hb, tops_at old v k) (tops_are new (λ v. merge (top_at old a) (top_at old b) (top_at old v)) forest v (omega arith))

-- the sets of a list whose labels were merged
pub sets_joined : (pairs : List (ℕ × ℕ)) (old new : List ℕ) (a b : ℕ) → LeadsDown old → length new ≡ length old → a < length old → b < length old
    → IsForest (λ v. merge (top_at old a) (top_at old b) (top_at old v)) new → AreSets pairs (tops old) → AreSets ((a, b) ∷ pairs) (tops new)
sets_joined pairs old new a b down long ha hb forest sets =
    sets_merged pairs (tops old) (tops new) a b sets (rw (length-tops old) ha) (rw (length-tops old) hb) (length-tops new ∙ (long ∙ sym (length-tops old))) (tops_merged old new a b long ha hb forest)
