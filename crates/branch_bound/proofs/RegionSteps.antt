-- One more area in the grouping by heads.
use Rattle.std.proofs.Common.{◌≡◌, ◌≢◌, ℕ, ◌+◌, ◌-◌, ◌<◌, ◌≤◌, List, [], ◌∷◌, ◌++◌, length, refl, sym, ◌∙◌, ap, subst, inl, inr, arith, length-append}
use Rattle.std.specs.Prelude.{slice_index, get_or}
use Rattle.std.proofs.lemmas.Bool.{cases_lt}
use Rattle.std.proofs.lemmas.List.{get_or_append_left, get_or-append_right}
use Rattle.branch_bound.specs.Components.{AreRegions}

-- a list with one more entry at its end
left_of : (xs : List ℕ) (x v : ℕ) → v < length xs → slice_index (xs ++ x ∷ []) v ≡ slice_index xs v
left_of xs x v h = get_or_append_left xs (x ∷ []) 0 v h

last_of : (xs : List ℕ) (x v : ℕ) → v ≡ length xs → slice_index (xs ++ x ∷ []) v ≡ x
last_of xs x v e =
    let none : v - length xs ≡ 0 = omega arith in
    get_or-append_right xs (x ∷ []) (length xs) v 0 refl (omega arith) ∙ ap (λ i. get_or (x ∷ []) i 0) none

one_longer : (xs : List ℕ) (x : ℕ) → length (xs ++ x ∷ []) ≡ length xs + 1
one_longer xs x = length-append xs (x ∷ [])

each_more : (n : ℕ) (P : ℕ → Type 0) → ((v : ℕ) → v < n → P v) → P n → (v : ℕ) → v < n + 1 → P v
each_more n P before here v h =
    elim (cases_lt v n) [ inl less ↦ before v less | inr last ↦ (let e : n ≡ v = omega arith in subst P e here) ]

-- an area that is not the head of its set gets the region of the head
pub follower : (heads of_class : List ℕ) (n : ℕ) (regions classes : List ℕ) → ((v : ℕ) → v ≤ n → slice_index heads v ≤ v) → slice_index heads n ≢ n → AreRegions heads of_class n (record { region_of = regions; class_of = classes }) → AreRegions heads of_class (n + 1) (record { region_of = regions ++ slice_index regions (slice_index heads n) ∷ []; class_of = classes })
follower heads of_class n regions classes down apart start =
    let top : ℕ = slice_index heads n in
    let x : ℕ = slice_index regions top in
    let more : List ℕ = regions ++ x ∷ [] in
    let count : length regions ≡ n = start.one_each in
    let less : top < n = (let d = down n (omega arith) in omega arith) in
    let old : (v : ℕ) → v < n → slice_index more v ≡ slice_index regions v = λ v h. left_of regions x v (omega arith) in
    let last : slice_index more n ≡ x = last_of regions x n (sym count) in
    record {
      one_each = one_longer regions x ∙ ap (λ m. m + 1) count;
      few = (let few = start.few in omega arith);
      in_range = each_more n (λ v. slice_index more v < length classes)
          (λ v h. (let e = old v h in let in_old = start.in_range v h in omega arith))
          (let in_old = start.in_range top less in omega arith);
      same = each_more n (λ v. slice_index more v ≡ slice_index more (slice_index heads v))
          (λ v h. (let d : slice_index heads v ≤ v = down v (omega arith) in old v h ∙ (start.same v h ∙ sym (old (slice_index heads v) (omega arith)))))
          (last ∙ sym (old top less));
      tops = λ r h. (let t = start.tops r h in (t.0, omega (arith, t.1), t.2, old t.0 t.1 ∙ t.3, t.4));
      rising = λ u v lt h tu tv.
          each_more n (λ v. (u : ℕ) → u < v → slice_index heads u ≡ u → slice_index heads v ≡ v → slice_index more u < slice_index more v)
          (λ v h u lt tu tv. (let e = old u (omega arith) in let f = old v h in let in_old = start.rising u v lt h tu tv in omega arith))
          (λ u lt tu tv. absurd (apart tv)) v h u lt tu tv;
    }

-- a head opens a region
pub opener : (heads of_class : List ℕ) (n : ℕ) (regions classes : List ℕ) (k : ℕ) → ((v : ℕ) → v ≤ n → slice_index heads v ≤ v) → slice_index heads n ≡ n → k ≡ slice_index of_class n → AreRegions heads of_class n (record { region_of = regions; class_of = classes }) → AreRegions heads of_class (n + 1) (record { region_of = regions ++ length classes ∷ []; class_of = classes ++ k ∷ [] })
opener heads of_class n regions classes k down top has start =
    let x : ℕ = length classes in
    let more : List ℕ = regions ++ x ∷ [] in
    let kinds : List ℕ = classes ++ k ∷ [] in
    let count : length regions ≡ n = start.one_each in
    let longer : length kinds ≡ x + 1 = one_longer classes k in
    let old : (v : ℕ) → v < n → slice_index more v ≡ slice_index regions v = λ v h. left_of regions x v (omega arith) in
    let last : slice_index more n ≡ x = last_of regions x n (sym count) in
    let old_class : (r : ℕ) → r < x → slice_index kinds r ≡ slice_index classes r = λ r h. left_of classes k r h in
    let last_class : slice_index kinds x ≡ k = last_of classes k x refl in
    record {
      one_each = one_longer regions x ∙ ap (λ m. m + 1) count;
      few = (let few = start.few in omega arith);
      in_range = each_more n (λ v. slice_index more v < length kinds)
          (λ v h. (let e = old v h in let in_old = start.in_range v h in omega arith))
          (omega arith);
      same = each_more n (λ v. slice_index more v ≡ slice_index more (slice_index heads v))
          (λ v h. (let d : slice_index heads v ≤ v = down v (omega arith) in old v h ∙ (start.same v h ∙ sym (old (slice_index heads v) (omega arith)))))
          (ap (slice_index more) (sym top));
      tops = λ r h.
          each_more x (λ r. (t : ℕ) × (t < n + 1) × (slice_index heads t ≡ t) × (slice_index more t ≡ r) × (slice_index kinds r ≡ slice_index of_class t))
          (λ r h. (let t = start.tops r h in (t.0, omega (arith, t.1), t.2, old t.0 t.1 ∙ t.3, subst (λ (j : ℕ). j ≡ slice_index of_class t.0) (sym (old_class r h)) t.4)))
          (n, omega arith, top, last, subst (λ (j : ℕ). j ≡ slice_index of_class n) (sym last_class) has) r (omega (arith, h));
      rising = λ u v lt h tu tv.
          each_more n (λ v. (u : ℕ) → u < v → slice_index heads u ≡ u → slice_index heads v ≡ v → slice_index more u < slice_index more v)
          (λ v h u lt tu tv. (let e = old u (omega arith) in let f = old v h in let in_old = start.rising u v lt h tu tv in omega arith))
          (λ u lt tu tv. (let e = old u lt in let in_old = start.in_range u lt in omega arith)) v h u lt tu tv;
    }

-- no area, no region
pub nothing : (heads of_class : List ℕ) → AreRegions heads of_class 0 (record { region_of = []; class_of = [] })
nothing heads of_class =
    record {
      one_each = refl;
      few = omega arith;
      in_range = λ v h. absurd (omega arith);
      same = λ v h. absurd (omega arith);
      tops = λ r h. absurd (omega arith);
      rising = λ u v lt h tu tv. absurd (omega arith);
    }
