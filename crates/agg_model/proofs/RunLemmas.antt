-- Areas sorted by region, each region in one run.
use Rattle.std.proofs.Common.{◌≡◌, ◌≢◌, ℕ, zero, suc, ◌+◌, ◌<◌, ◌≤◌, List, [], ◌∷◌, ◌++◌, take, length, refl, ap, sym, ◌∙◌, arith, subst, inl, inr, zero-add, add-one}
use Rattle.std.specs.Prelude.{slice_index, slice_index_or, ◌↔◌, ◌⊎◌, Bool, true, false, IsTrue, ◌==◌, ◌||◌, ℤ, pos, negsuc, ◌+ℤ◌, ◌≤ℤ◌, ◌<ℤ◌, ◌^◌, if◌then◌else◌}
use Rattle.std.specs.List.{Contains, range_with_len, sum_by}
use Rattle.std.specs.List.Sorted.{IsPermutation, IsNonDecreasingBy}
use Rattle.std.proofs.lemmas.Int.{ints}
use Rattle.std.proofs.lemmas.Bool.{cases_eq, cases_lt}
use Rattle.std.proofs.lemmas.Bool.Decides.{eqb_tells, Decides-eqb}
use Rattle.std.proofs.lemmas.List.{get_or_default, same_lists}
use Rattle.std.proofs.Math.Seq.{take-length}
use Rattle.std.proofs.lemmas.List.FromFn.{length-range_with_len, get_or-range_with_len}
use Rattle.std.proofs.lemmas.List.Sums.{sum_by-append, sum_by_more, sum_by_more_le}
use Rattle.std.proofs.lemmas.List.Sorted.{IsPermutation-sym, Contains-permutation, length_permutation, sum_by-IsPermutation}
use Rattle.whole_ring.specs.Sums.{sum_below, when}
use Rattle.whole_ring.proofs.Sums.{sum_below-more}
use Rattle.union_find.proofs.StepLemmas.{range_more}
use Rattle.agg_model.specs.Problem.{Problem, Grouping, IsProblem, areas, own_of, weight_of, region, class_in, region_weight}
use Rattle.agg_model.specs.Lacks.{IsOwned}
use Rattle.agg_model.specs.Tops.{AreByRegion, IsStart, natural, share}
use Rattle.agg_model.proofs.CostLemmas.{region_at_most, sums_are_small, weights_nonnegative}

-- ---- all areas, in another order

-- a list that counts up from 0
pub counts_up : (xs : List ℕ) (n : ℕ) → length xs ≡ n → ((v : ℕ) → v < n → slice_index xs v ≡ v) → xs ≡ range_with_len 0 n
counts_up xs n long at =
    same_lists xs (range_with_len 0 n) (long ∙ sym (length-range_with_len 0 n)) (λ v d h.
    let inside : v < n = omega arith in
    get_or_default xs v d 0 h ∙ (at v inside ∙ sym (get_or-range_with_len 0 n v d inside ∙ zero-add v)))

pub run_length : (p : Problem) (g : Grouping) (xs : List ℕ) → AreByRegion p g xs → length xs ≡ areas p
run_length p g xs are = length_permutation (range_with_len 0 (areas p)) xs are.all ∙ length-range_with_len 0 (areas p)

pub run_within : (p : Problem) (g : Grouping) (xs : List ℕ) → AreByRegion p g xs → (i : ℕ) → i < length xs → slice_index xs i < areas p
run_within p g xs are i h =
    let all = range_with_len 0 (areas p) in
    let back = Contains-permutation xs all (slice_index xs i) (IsPermutation-sym all xs are.all) (i, h, get_or_default xs i (slice_index xs i) 0 h) in
    let less = back.1 in
    let long = length-range_with_len 0 (areas p) in
    let inside : back.0 < areas p = omega arith in
    let e = sym (get_or-range_with_len 0 (areas p) back.0 (slice_index xs i) inside) ∙ back.2 in
    omega arith

place_in : (p : Problem) (g : Grouping) (xs : List ℕ) → AreByRegion p g xs → (v : ℕ) → v < areas p → (i : ℕ) × (i < length xs) × (slice_index xs i ≡ v)
place_in p g xs are v h =
    let all = range_with_len 0 (areas p) in
    let here = Contains-permutation all xs v are.all (v, (let long = length-range_with_len 0 (areas p) in omega arith), get_or-range_with_len 0 (areas p) v v h ∙ zero-add v) in
    (here.0, here.1, sym (get_or_default xs here.0 v 0 here.1) ∙ here.2)

-- ---- shares of the weight

share_is : (p : Problem) (g : Grouping) (r v : ℕ) → pos 0 ≤ℤ weight_of p v → when (region g v == r) (weight_of p v) ≡ pos (share p g r v)
share_is p g r v low =
    elim (eqb_tells (region g v) r) [
      | inl h ↦ rw h.0 (natural_is (weight_of p v) low)
      | inr h ↦ rw h.0 refl
    ]
  where
    natural_is : (w : ℤ) → pos 0 ≤ℤ w → w ≡ pos (natural w)
    natural_is (pos n) h = refl
    natural_is (negsuc n) h = absurd (omega (arith, ints))

-- the share of an area of the region, and of one of another
pub share_here : (p : Problem) (g : Grouping) (r v : ℕ) → pos 0 ≤ℤ weight_of p v → region g v ≡ r → weight_of p v ≡ pos (share p g r v)
share_here p g r v low e =
    elim (eqb_tells (region g v) r) [
      | inl h ↦ sym (ap (λ (b : Bool). when b (weight_of p v)) h.0) ∙ share_is p g r v low
      | inr h ↦ absurd (h.1 e)
    ]

share_elsewhere : (p : Problem) (g : Grouping) (r v : ℕ) → region g v ≢ r → share p g r v ≡ 0
share_elsewhere p g r v ne = elim (eqb_tells (region g v) r) [ inl h ↦ absurd (ne h.1) | inr h ↦ rw h.0 refl ]

shares_below : (p : Problem) (g : Grouping) (r n : ℕ) → IsProblem p → n ≤ areas p → sum_below n (λ v. when (region g v == r) (weight_of p v)) ≡ pos (sum_by (share p g r) (range_with_len 0 n))
shares_below p g r zero rules h = refl
shares_below p g r (suc n) rules h =
    let before = shares_below p g r n rules (omega arith) in
    let here = share_is p g r n (weights_nonnegative p rules n (omega arith)) in
    let list : range_with_len 0 (suc n) ≡ range_with_len 0 n ++ n ∷ [] = ap (range_with_len 0) (sym (add-one n)) ∙ (range_more 0 n ∙ ap (λ (x : ℕ). range_with_len 0 n ++ x ∷ []) (zero-add n)) in
    let sum = ap (sum_by (share p g r)) list ∙ sum_by-append (share p g r) (range_with_len 0 n) (n ∷ []) in
    omega (arith, ints)

-- all shares make the weight of the region
pub shares_are_weight : (p : Problem) (g : Grouping) (xs : List ℕ) (r : ℕ) → IsProblem p → AreByRegion p g xs → region_weight p g r ≡ pos (sum_by (share p g r) xs)
shares_are_weight p g xs r rules are =
    shares_below p g r (areas p) rules (omega arith) ∙ ap (λ (n : ℕ). pos n) (sym (sum_by-IsPermutation (share p g r) (range_with_len 0 (areas p)) xs are.all))

-- terms of 0 change no sum
sums_stay : (f : ℕ → ℕ) (xs : List ℕ) (i k : ℕ) → i + k ≤ length xs → ((j : ℕ) → i ≤ j → j < i + k → f (slice_index xs j) ≡ 0) → sum_by f (take (i + k) xs) ≡ sum_by f (take i xs)
sums_stay f xs i zero h none = ap (λ (m : ℕ). sum_by f (take m xs)) (let e : i + 0 ≡ i = omega arith in e)
sums_stay f xs i (suc k) h none =
    let before = sums_stay f xs i k (omega arith) (λ j a b. none j a (omega arith)) in
    let more = sum_by_more f xs (i + k) 0 (omega arith) in
    let last = none (i + k) (omega arith) (omega arith) in
    let e : i + suc k ≡ i + k + 1 = omega arith in
    let same = ap (λ (m : ℕ). sum_by f (take m xs)) e in
    omega arith

-- ---- the run of a region

-- what is known of region r when the areas before a place were looked at, from its start on
pub record IsTallied (p : Problem) (g : Grouping) (xs : List ℕ) (r start at : ℕ) (owned : Bool) (weight : ℤ) : Type 0 where
  pub run : (i : ℕ) → start ≤ i → i < at → region g (slice_index xs i) ≡ r
  pub has_owner : IsTrue owned ↔ ((i : ℕ) × (i < at) × (region g (slice_index xs i) ≡ r) × (own_of p (slice_index xs i) ≡ class_in g r))
  pub sum : weight ≡ pos (sum_by (share p g r) (take at xs))

pub tallied_none : (p : Problem) (g : Grouping) (xs : List ℕ) (r start : ℕ) → IsStart g xs r start → IsTallied p g xs r start start false (pos 0)
tallied_none p g xs r start is =
    let within = is.within in
    record {
      run = λ i a b. absurd (omega arith);
      has_owner = (λ e. cc, λ o. (let less = is.before o.0 o.1 in let e = o.2 in absurd (omega arith)));
      sum =
          let none = sums_stay (share p g r) xs 0 start (omega arith) (λ j a b.
          let less = is.before j (omega arith) in
          share_elsewhere p g r (slice_index xs j) (λ e. omega arith)) in
          let e : 0 + start ≡ start = omega arith in
          let same = ap (λ (m : ℕ). sum_by (share p g r) (take m xs)) e in
          ap (λ (n : ℕ). pos n) (sym none ∙ same);
    }

-- whether one more area owns the class
pub owner_more : (owned : Bool) (a b x k : ℕ) → a ≡ x → b ≡ k → IsTrue (owned || (a == b)) ↔ (IsTrue owned ⊎ (x ≡ k))
owner_more true a b x k e f = (λ t. inl refl, λ o. refl)
owner_more false a b x k e f = (λ t. inr (sym e ∙ ((Decides-eqb a b).0 t ∙ f)), λ o. elim o [ inl q ↦ cc | inr q ↦ (Decides-eqb a b).1 (e ∙ (q ∙ sym f)) ])

-- the next area is of the region
pub tallied_more : (p : Problem) (g : Grouping) (xs : List ℕ) (r start at : ℕ) (owned new : Bool) (weight sum : ℤ) → at < length xs → region g (slice_index xs at) ≡ r → pos 0 ≤ℤ weight_of p (slice_index xs at)
    → (IsTrue new ↔ (IsTrue owned ⊎ (own_of p (slice_index xs at) ≡ class_in g r))) → sum ≡ weight +ℤ weight_of p (slice_index xs at) → IsTallied p g xs r start at owned weight → IsTallied p g xs r start (at + 1) new sum
tallied_more p g xs r start at owned new weight sum h here low is_new is_sum was = record {
  run = λ i a b.
      elim (cases_eq i at) [
        | inl e ↦ subst (λ (j : ℕ). region g (slice_index xs j) ≡ r) (sym e) here
        | inr ne ↦ was.run i a (omega arith)
      ];
  has_owner = (
    λ t. elim (is_new.0 t) [
      | inl before ↦ (let o = was.has_owner.0 before in let b = o.1 in (o.0, omega arith, o.2, o.3))
      | inr own ↦ (at, omega arith, here, own)
    ],
    λ o. (let b = o.1 in
        elim (cases_eq o.0 at) [
          | inl e ↦ is_new.1 (inr (subst (λ (j : ℕ). own_of p (slice_index xs j) ≡ class_in g r) e o.3))
          | inr ne ↦ is_new.1 (inl (was.has_owner.1 (o.0, omega arith, o.2, o.3)))
        ]),
  );
  sum =
      let one = share_here p g r (slice_index xs at) low here in
      let more = sum_by_more (share p g r) xs at 0 h in
      let old = was.sum in
      omega (arith, ints);
}

-- what is added up stays small
pub tally_fits : (p : Problem) (g : Grouping) (xs : List ℕ) (r start at : ℕ) (owned : Bool) (weight : ℤ) → IsProblem p → AreByRegion p g xs → at < length xs → region g (slice_index xs at) ≡ r → IsTallied p g xs r start at owned weight
    → (pos 0 ≤ℤ (weight +ℤ weight_of p (slice_index xs at))) × ((weight +ℤ weight_of p (slice_index xs at)) <ℤ pos (2 ^ 97))
tally_fits p g xs r start at owned weight rules are h here was =
    let low = weights_nonnegative p rules (slice_index xs at) (run_within p g xs are at h) in
    let one = share_here p g r (slice_index xs at) low here in
    let more = sum_by_more_le (share p g r) xs at 0 h in
    let old = was.sum in
    let whole = shares_are_weight p g xs r rules are in
    let all = region_at_most p rules g r in
    let small = (sums_are_small p rules).weights in
    (omega (arith, ints), omega (arith, ints))

-- where the run of a region ends
pub record IsEnd (g : Grouping) (xs : List ℕ) (r at : ℕ) : Type 0 where
  pub within : at ≤ length xs
  pub other : at < length xs → region g (slice_index xs at) ≢ r

behind_end : (p : Problem) (g : Grouping) (xs : List ℕ) (r start at : ℕ) → AreByRegion p g xs → IsStart g xs r start → start ≤ at → IsEnd g xs r at → (i : ℕ) → at ≤ i → i < length xs → r < region g (slice_index xs i)
behind_end p g xs r start at are is from end i a b =
    let there : at < length xs = omega arith in
    let low = is.behind at from there in
    let up = are.sorted at i 0 a b in
    elim (cases_eq (region g (slice_index xs at)) r) [
      | inl e ↦ absurd (end.other there e)
      | inr ne ↦ omega arith
    ]

pub run_ends : (p : Problem) (g : Grouping) (xs : List ℕ) (r start at : ℕ) (owned : Bool) (weight : ℤ) → AreByRegion p g xs → IsStart g xs r start → start ≤ at → IsEnd g xs r at → IsTallied p g xs r start at owned weight → IsStart g xs (r + 1) at
run_ends p g xs r start at owned weight are is from end was =
    record {
      within = end.within;
      before = λ i h.
          elim (cases_lt i start) [
            | inl less ↦ (let b = is.before i less in omega arith)
            | inr more ↦ (let e = was.run i more h in omega arith)
          ];
      behind = λ i a b. (let up = behind_end p g xs r start at are is from end i a b in omega arith);
    }

pub run_owned : (p : Problem) (g : Grouping) (xs : List ℕ) (r start at : ℕ) (owned : Bool) (weight : ℤ) → AreByRegion p g xs → IsStart g xs r start → start ≤ at → IsEnd g xs r at → IsTallied p g xs r start at owned weight → IsTrue owned ↔ IsOwned p g r
run_owned p g xs r start at owned weight are is from end was = (
  λ t. (let o = was.has_owner.0 t in let b = o.1 in let w = end.within in (slice_index xs o.0, run_within p g xs are o.0 (omega arith), o.2, o.3)),
  λ o.
      let place = place_in p g xs are o.0 o.1 in
      let e : region g (slice_index xs place.0) ≡ r = ap (region g) place.2 ∙ o.2 in
      elim (cases_lt place.0 at) [
        | inl less ↦ was.has_owner.1 (place.0, less, e, subst (λ (v : ℕ). own_of p v ≡ class_in g r) (sym place.2) o.3)
        | inr more ↦ (let up = behind_end p g xs r start at are is from end place.0 more place.1 in absurd (omega arith))
      ],
)

pub run_weight : (p : Problem) (g : Grouping) (xs : List ℕ) (r start at : ℕ) (owned : Bool) (weight : ℤ) → IsProblem p → AreByRegion p g xs → IsStart g xs r start → start ≤ at → IsEnd g xs r at → IsTallied p g xs r start at owned weight → weight ≡ region_weight p g r
run_weight p g xs r start at owned weight rules are is from end was =
    let w = end.within in
    let rest : (k : ℕ) × (at + k ≡ length xs) = rest_of at (length xs) w in
    let e = rest.1 in
    let none = sums_stay (share p g r) xs at rest.0 (omega arith) (λ j a b.
    let up = behind_end p g xs r start at are is from end j a (omega arith) in
    share_elsewhere p g r (slice_index xs j) (λ q. omega arith)) in
    let all : sum_by (share p g r) (take (at + rest.0) xs) ≡ sum_by (share p g r) xs = ap (sum_by (share p g r)) (ap (λ (m : ℕ). take m xs) e ∙ take-length xs) in
    was.sum ∙ (ap (λ (n : ℕ). pos n) (sym none ∙ all) ∙ sym (shares_are_weight p g xs r rules are))
  where
    rest_of : (a b : ℕ) → a ≤ b → (k : ℕ) × (a + k ≡ b)
    rest_of a zero h = (0, omega arith)
    rest_of a (suc b) h =
        elim (cases_eq a (suc b)) [
          | inl e ↦ (0, omega arith)
          | inr ne ↦ (let r = rest_of a b (omega arith) in let e = r.1 in (suc r.0, omega arith))
        ]
