-- Labels are the least areas to which links lead.
use Rattle.std.proofs.Common.{◌≡◌, ◌≢◌, ℕ, zero, suc, ◌+◌, ◌<◌, ◌≤◌, ◌⊎◌, Bool, true, length, refl, ap, sym, ◌∙◌, arith, subst, inl, inr, min, max, zero-add, suc-add, add-one}
use Rattle.union_find.specs.Steps.{merge}
use Rattle.union_find.proofs.StepLemmas.{merge_tells, merge_at_most, of_either}
use Rattle.agg_model.specs.Problem.{Problem, low_of, high_of}
use Rattle.row_laws.specs.Components.{label}
use Rattle.row_laws.specs.Fixed.{Kinds, is_same_kind, component}
use Rattle.row_laws.proofs.ComponentLemmas.{one_label}
use Rattle.row_laws.proofs.Tests.{by_test}
use Rattle.fixed_value.specs.Walks.{AreJoined, Walk, LeadsTo, InOneComponent, ComponentLaw}

-- ---- walks

joined_back : (p : Problem) (test : ℕ → Bool) (n u v : ℕ) → AreJoined p test n u v → AreJoined p test n v u
joined_back p test n u v h = (h.0, h.1, h.2, elim h.3 [ inl e ↦ inr e | inr e ↦ inl e ])

joined_more : (p : Problem) (test : ℕ → Bool) (n u v : ℕ) → AreJoined p test n u v → AreJoined p test (suc n) u v
joined_more p test n u v h = (h.0, (let l = h.1 in omega arith), h.2, h.3)

walk_along : (p : Problem) (test : ℕ → Bool) (n u v w m k : ℕ) → Walk p test n v u m → Walk p test n w v k → Walk p test n w u (m + k)
walk_along p test n u v w zero k h i = subst (λ (x : ℕ). Walk p test n w x (0 + k)) (sym h) (rw zero-add i)
walk_along p test n u v w (suc m) k h i = rw suc-add (h.0, h.1, walk_along p test n h.0 v w m k h.2 i)

walk_back : (p : Problem) (test : ℕ → Bool) (n u v m : ℕ) → Walk p test n v u m → Walk p test n u v m
walk_back p test n u v zero h = sym h
walk_back p test n u v (suc m) h =
    let last : Walk p test n u h.0 1 = (u, joined_back p test n u h.0 h.1, refl) in
    subst (λ (k : ℕ). Walk p test n u v k) (add-one m) (walk_along p test n v h.0 u m 1 (walk_back p test n h.0 v m h.2) last)

walk_more : (p : Problem) (test : ℕ → Bool) (n u v m : ℕ) → Walk p test n v u m → Walk p test (suc n) v u m
walk_more p test n u v zero h = h
walk_more p test n u v (suc m) h = (h.0, joined_more p test n u h.0 h.1, walk_more p test n h.0 v m h.2)

leads_back : (p : Problem) (test : ℕ → Bool) (n u v : ℕ) → LeadsTo p test n u v → LeadsTo p test n v u
leads_back p test n u v h = (h.0, walk_back p test n u v h.0 h.1)

leads_along : (p : Problem) (test : ℕ → Bool) (n u v w : ℕ) → LeadsTo p test n u v → LeadsTo p test n v w → LeadsTo p test n u w
leads_along p test n u v w h k = (h.0 + k.0, walk_along p test n u v w h.0 k.0 h.1 k.1)

leads_more : (p : Problem) (test : ℕ → Bool) (n u v : ℕ) → LeadsTo p test n u v → LeadsTo p test (suc n) u v
leads_more p test n u v h = (h.0, walk_more p test n u v h.0 h.1)

-- ---- labels

label_down : (p : Problem) (test : ℕ → Bool) (n v : ℕ) → label p test n v ≤ v
label_down p test zero v = omega arith
label_down p test (suc l) v =
    let a = label p test l (low_of p l) in
    let b = label p test l (high_of p l) in
    let x = label p test l v in
    let ih = label_down p test l v in
    by_test (test l) _
    (λ t.
    let most = merge_at_most a b x in
    let is : merge a b x ≤ v = omega arith in
    rw t is)
    (λ f. rw f ih)

-- links lead from an area to its label
label_reached : (p : Problem) (test : ℕ → Bool) (n v : ℕ) → LeadsTo p test n v (label p test n v)
label_reached p test zero v = (0, refl)
label_reached p test (suc l) v =
    let low = low_of p l in
    let high = high_of p l in
    let a = label p test l low in
    let b = label p test l high in
    let x = label p test l v in
    let to_x = leads_more p test l v x (label_reached p test l v) in
    by_test (test l) _
    (λ t.
    let to_a = leads_more p test l low a (label_reached p test l low) in
    let from_high = leads_more p test l high b (label_reached p test l high) in
    let across : LeadsTo p test (suc l) low high = (1, (high, (l, omega arith, t, inl (refl, refl)), refl)) in
    let to_b = leads_along p test (suc l) low high b across from_high in
    let both = of_either (λ m. LeadsTo p test (suc l) low m) a b to_a to_b in
    let is : LeadsTo p test (suc l) v (merge a b x) = elim (merge_tells a b x) [
      | inl h ↦
          (let to_greater = subst (λ (m : ℕ). LeadsTo p test (suc l) v m) h.0 to_x in
          let to_low = leads_along p test (suc l) v (max a b) low to_greater (leads_back p test (suc l) low (max a b) both.0) in
          subst (λ (m : ℕ). LeadsTo p test (suc l) v m) (sym h.1) (leads_along p test (suc l) v low (min a b) to_low both.1))
      | inr h ↦ subst (λ (m : ℕ). LeadsTo p test (suc l) v m) (sym h.1) to_x
    ] in
    rw t is)
    (λ f. rw f to_x)

joined_label : (p : Problem) (test : ℕ → Bool) (n u s : ℕ) → AreJoined p test n u s → label p test n u ≡ label p test n s
joined_label p test n u s h =
    let one = one_label p test n h.0 h.1 h.2 in
    elim h.3 [
      | inl e ↦ ap (label p test n) (sym e.0) ∙ (one ∙ ap (label p test n) e.1)
      | inr e ↦ ap (label p test n) (sym e.1) ∙ (sym one ∙ ap (label p test n) e.0)
    ]

-- areas that links lead to have one label
label_along : (p : Problem) (test : ℕ → Bool) (n v m u : ℕ) → Walk p test n v u m → label p test n u ≡ label p test n v
label_along p test n v zero u h = ap (label p test n) h
label_along p test n v (suc m) u h = joined_label p test n u h.0 h.1 ∙ label_along p test n v m h.0 h.2

pub component_law : ComponentLaw
component_law p kind v =
    let test = is_same_kind p kind in
    let n = length p.links in (
      label_reached p test n v,
      λ u h.
          let same = label_along p test n u h.0 v h.1 in
          let down = label_down p test n u in
          omega arith,
      λ u. (
        λ e.
            let back = leads_back p test n v (component p kind v) (label_reached p test n v) in
            leads_along p test n u (component p kind u) v (label_reached p test n u) (subst (λ (m : ℕ). LeadsTo p test n m v) (sym e) back),
        λ h. label_along p test n v h.0 u h.1,
      ),
    )
