-- Steps in a forest.
use Rattle.std.proofs.Common.{◌≡◌, ℕ, zero, suc, ◌+◌, ◌<◌, ◌≤◌, ◌≢◌, ◌⊎◌, List, [], ◌∷◌, ◌++◌, length, refl, ap, sym, ◌∙◌, arith, subst, inl, inr, min, max, zero-add, add-zero, take}
use Rattle.std.proofs.Math.Seq.{take-append_seam}
use Rattle.std.specs.Prelude.{slice_index, slice_set}
use Rattle.std.proofs.lemmas.Bool.{cases_eq, cases_order}
use Rattle.std.proofs.lemmas.Bool.Decides.{eqb_tells}
use Rattle.std.proofs.lemmas.List.{get_or-set_same, get_or-set_other}
use Rattle.std.proofs.Math.ListN.{length-set}
use Rattle.std.proofs.lemmas.List.FromFn.{get_or-range_with_len, length-range_with_len}
use Rattle.std.specs.List.{range_with_len}
use Rattle.union_find.specs.Steps.{merge, LeadsDown, IsForest}

-- ---- two labels become one

-- the greater becomes the lesser, and every other number stays
pub merge_tells : (a b x : ℕ) → ((x ≡ max a b) × (merge a b x ≡ min a b)) ⊎ ((x ≢ max a b) × (merge a b x ≡ x))
merge_tells a b x = elim (eqb_tells x (max a b)) [ inl h ↦ inl (h.1, rw h.0 refl) | inr h ↦ inr (h.1, rw h.0 refl) ]

pub merge_both : (a b : ℕ) → merge a b a ≡ merge a b b
merge_both a b =
    elim (merge_tells a b a) [
      | inl h ↦ elim (merge_tells a b b) [ inl k ↦ omega arith | inr k ↦ omega arith ]
      | inr h ↦ elim (merge_tells a b b) [ inl k ↦ omega arith | inr k ↦ omega arith ]
    ]

pub merge_at_most : (a b x : ℕ) → merge a b x ≤ x
merge_at_most a b x = elim (merge_tells a b x) [ inl h ↦ omega arith | inr h ↦ omega arith ]

merge_greater : (a b : ℕ) → merge a b (max a b) ≡ min a b
merge_greater a b = elim (merge_tells a b (max a b)) [ inl h ↦ h.1 | inr h ↦ absurd (h.0 refl) ]

merge_lesser : (a b : ℕ) → merge a b (min a b) ≡ min a b
merge_lesser a b = elim (merge_tells a b (min a b)) [ inl h ↦ h.1 | inr h ↦ h.1 ]

merge_other : (a b x : ℕ) → x ≢ max a b → merge a b x ≡ x
merge_other a b x ne = elim (merge_tells a b x) [ inl h ↦ absurd (ne h.0) | inr h ↦ h.1 ]

-- what holds at two numbers holds at the greater and at the lesser
pub of_either : (P : ℕ → Type 0) (a b : ℕ) → P a → P b → P (max a b) × P (min a b)
of_either P a b pa pb =
    elim (cases_order a b) [
      | inl e ↦ (subst P (omega arith) pa, subst P (omega arith) pb)
      | inr o ↦
          elim o [
            | inl h ↦ (subst P (omega arith) pb, subst P (omega arith) pa)
            | inr h ↦ (subst P (omega arith) pa, subst P (omega arith) pb)
          ]
    ]

-- ---- one place is written

-- what holds of the written place and of all others holds of all
at_each : (f : List ℕ) (at x : ℕ) (P : ℕ → ℕ → Type 0) → at < length f → P at x → ((v : ℕ) → v < length f → v ≢ at → P v (slice_index f v)) → (v : ℕ) → v < length f → P v (slice_index (slice_set f at x) v)
at_each f at x P h here other v k =
    elim (cases_eq v at) [
      | inl s ↦ subst (λ (w : ℕ). P w (slice_index (slice_set f at x) w)) (sym s) (rw (get_or-set_same f at x 0 h) here)
      | inr ne ↦ rw (get_or-set_other f at v x 0 ne) (other v k ne)
    ]

in_old : (f : List ℕ) (at x v : ℕ) → v < length (slice_set f at x) → v < length f
in_old f at x v h = subst (λ (n : ℕ). v < n) (length-set f at x) h

-- a step that is replaced by two
pub halved : (label_of : ℕ → ℕ) (f : List ℕ) (v : ℕ) → v < length f → IsForest label_of f → IsForest label_of (slice_set f v (slice_index f (slice_index f v)))
halved label_of f v h forest =
    let u = slice_index f v in
    let w = slice_index f u in
    let first : u ≤ v = forest.down v h in
    let there : u < length f = omega arith in
    let second : w ≤ u = forest.down u there in
    let top : w ≡ v → label_of v ≡ v = λ e. forest.top v h (omega arith) in
    record {
      down = λ k b. at_each f v w (λ i y. y ≤ i) h (omega arith) (λ i c _. forest.down i c) k (in_old f v w k b);
      same = λ k b. at_each f v w (λ i y. label_of y ≡ label_of i) h (forest.same u there ∙ forest.same v h) (λ i c _. forest.same i c) k (in_old f v w k b);
      top = λ k b. at_each f v w (λ i y. y ≡ i → label_of i ≡ i) h top (λ i c _. forest.top i c) k (in_old f v w k b);
    }

pub halved_down : (f : List ℕ) (v : ℕ) → v < length f → LeadsDown f → LeadsDown (slice_set f v (slice_index f (slice_index f v)))
halved_down f v h down k b =
    let u = slice_index f v in
    let w = slice_index f u in
    let first : u ≤ v = down v h in
    let second : w ≤ u = down u (omega arith) in
    at_each f v w (λ i y. y ≤ i) h (omega arith) (λ i c _. down i c) k (in_old f v w k b)

pub halved_below : (f : List ℕ) (v : ℕ) → v < length f → LeadsDown f → slice_index f (slice_index f v) < length (slice_set f v (slice_index f (slice_index f v)))
halved_below f v h down =
    let u = slice_index f v in
    let w = slice_index f u in
    let first : u ≤ v = down v h in
    let second : w ≤ u = down u (omega arith) in
    rw (length-set f v w) (omega arith)

-- two steps lead to the label of the start
pub halved_label : (label_of : ℕ → ℕ) (f : List ℕ) (v : ℕ) → v < length f → IsForest label_of f → label_of (slice_index f (slice_index f v)) ≡ label_of v
halved_label label_of f v h forest =
    let first : slice_index f v ≤ v = forest.down v h in
    forest.same (slice_index f v) (omega arith) ∙ forest.same v h

-- two labels of which the greater is led to the lesser
pub hung : (label_of : ℕ → ℕ) (f : List ℕ) (a b : ℕ) → a < length f → b < length f → label_of a ≡ a → label_of b ≡ b → IsForest label_of f → IsForest (λ v. merge a b (label_of v)) (slice_set f (max a b) (min a b))
hung label_of f a b ha hb ea eb forest =
    let ends = of_either (λ x. label_of x ≡ x) a b ea eb in
    let h : max a b < length f = omega arith in
    let low : min a b ≤ max a b = omega arith in
    record {
      down = λ k c. at_each f (max a b) (min a b) (λ i y. y ≤ i) h low (λ i d _. forest.down i d) k (in_old f (max a b) (min a b) k c);
      same = λ k c. at_each f (max a b) (min a b) (λ i y. merge a b (label_of y) ≡ merge a b (label_of i)) h
          (ap (merge a b) ends.1 ∙ (merge_lesser a b ∙ (sym (merge_greater a b) ∙ ap (merge a b) (sym ends.0))))
          (λ i d _. ap (merge a b) (forest.same i d)) k (in_old f (max a b) (min a b) k c);
      top = λ k c. at_each f (max a b) (min a b) (λ i y. y ≡ i → merge a b (label_of i) ≡ i) h
          (λ e. ap (merge a b) ends.0 ∙ (merge_greater a b ∙ e))
          (λ i d ne e. ap (merge a b) (forest.top i d e) ∙ merge_other a b i ne) k (in_old f (max a b) (min a b) k c);
    }

pub hung_at : (label_of : ℕ → ℕ) (f : List ℕ) (a b c d high low : ℕ) → c < length f → d < length f → c ≡ label_of a → d ≡ label_of b → label_of c ≡ c → label_of d ≡ d → high ≡ max c d → low ≡ min c d → IsForest label_of f → IsForest (λ v. merge (label_of a) (label_of b) (label_of v)) (slice_set f high low)
hung_at label_of f a b c d high low hc hd ec ed tc td eh el forest = rw (eh, el, ← ec, ← ed) (hung label_of f c d hc hd tc td forest)

pub hung_down : (f : List ℕ) (high low : ℕ) → high < length f → low ≤ high → LeadsDown f → LeadsDown (slice_set f high low)
hung_down f high low h le down k b = at_each f high low (λ i y. y ≤ i) h le (λ i c _. down i c) k (in_old f high low k b)

-- ---- all steps at once

-- where all before are led to their labels, two steps lead to the label
final_step : (label_of : ℕ → ℕ) (f : List ℕ) (v : ℕ) → v < length f → IsForest label_of f → ((k : ℕ) → k < v → slice_index f k ≡ label_of k) → slice_index f (slice_index f v) ≡ label_of v
final_step label_of f v h forest before =
    let u = slice_index f v in
    let down : u ≤ v = forest.down v h in
    elim (cases_eq u v) [
      | inl s ↦ ap (slice_index f) s ∙ (s ∙ sym (forest.top v h s))
      | inr ne ↦ before u (omega arith) ∙ forest.same v h
    ]

pub flat_more : (label_of : ℕ → ℕ) (f : List ℕ) (v : ℕ) → v < length f → IsForest label_of f → ((k : ℕ) → k < v → slice_index f k ≡ label_of k) → (k : ℕ) → k < v + 1 → slice_index (slice_set f v (slice_index f (slice_index f v))) k ≡ label_of k
flat_more label_of f v h forest before k b =
    let w = slice_index f (slice_index f v) in
    elim (cases_eq k v) [
      | inl s ↦ subst (λ (i : ℕ). slice_index (slice_set f v w) i ≡ label_of i) (sym s) (get_or-set_same f v w 0 h ∙ final_step label_of f v h forest before)
      | inr ne ↦ get_or-set_other f v k w 0 ne ∙ before k (omega arith)
    ]

-- ---- each member alone

pub alone_at : (n v : ℕ) → v < n → slice_index (range_with_len 0 n) v ≡ v
alone_at n v h = get_or-range_with_len 0 n v 0 h ∙ zero-add v

pub alone_down : (n : ℕ) → LeadsDown (range_with_len 0 n)
alone_down n v h = let e = alone_at n v (subst (λ (m : ℕ). v < m) (length-range_with_len 0 n) h) in omega arith

pub alone : (n : ℕ) → IsForest (λ v. v) (range_with_len 0 n)
alone n = record {
  down = alone_down n;
  same = λ v h. alone_at n v (subst (λ (m : ℕ). v < m) (length-range_with_len 0 n) h);
  top = λ v h e. refl;
}

-- members that lead to themselves
pub apart_forest : (f : List ℕ) → ((v : ℕ) → v < length f → slice_index f v ≡ v) → IsForest (λ v. v) f
apart_forest f apart = record {
  down = λ v h. (let e = apart v h in omega arith);
  same = λ v h. apart v h;
  top = λ v h e. refl;
}

-- a list that was written over as a whole
pub written_over : (n : ℕ) (xs ys : List ℕ) → length xs ≡ n → take n (xs ++ ys) ≡ xs
written_over n xs ys e = subst (λ (m : ℕ). take m (xs ++ ys) ≡ xs) e (take-append_seam xs ys)

-- one more number
pub range_more : (a n : ℕ) → range_with_len a (n + 1) ≡ range_with_len a n ++ (a + n) ∷ []
range_more a zero = rw add-zero refl
range_more a (suc n) =
    let ih : range_with_len (a + 1) (n + 1) ≡ range_with_len (a + 1) n ++ (a + 1 + n) ∷ [] = range_more (a + 1) n in
    let e : a + 1 + n ≡ a + suc n = omega arith in
    let step : suc n + 1 ≡ suc (n + 1) = omega arith in
    rw step (ap (λ (xs : List ℕ). a ∷ xs) (ih ∙ ap (λ (m : ℕ). range_with_len (a + 1) n ++ m ∷ []) e))
