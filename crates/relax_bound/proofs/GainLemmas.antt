-- What units of a push add to the total.
use Rattle.std.proofs.Common.{◌≡◌, ℕ, ◌<◌, ◌≢◌, true, false, eqb, length, refl, ap, sym, ◌∙◌, arith, subst, ◌⊎◌, inl, inr}
use Rattle.std.specs.Prelude.{ℤ, pos, negsuc, ◌+ℤ◌, ◌-ℤ◌, ◌*ℤ◌, ◌≤ℤ◌, ◌==◌}
use Rattle.std.proofs.lemmas.Int.{ints, clamps}
use Rattle.std.proofs.lemmas.Bool.Decides.{Decides-eqb}
use Rattle.whole_ring.specs.Sums.{sum_below, when}
use Rattle.whole_ring.proofs.Sums.{sum_below-le, sum_below-same}
use Rattle.agg_model.specs.Problem.{Problem, areas}
use Rattle.row_laws.proofs.Tests.{by_test, clash}
use Rattle.row_laws.proofs.SumLemmas.{sum_below-add, sum_below-point}
use Rattle.row_laws.specs.Rows.{Place, Choice, Across}
use Rattle.row_laws.specs.Values.{Allowed}
use Rattle.row_laws.specs.Exact.{area_term_at, link_term_at}
use Rattle.relax_bound.specs.Levels.{total_of, after_units, IsBit, IsPush, IsFree, IsFilled, IsStuck, Shut, Tied, Leans, Spent}
use Rattle.relax_bound.proofs.LeastLemmas.{IsLeast, least_is}

-- ---- one number after m units

bit_least : (x m c : ℤ) → pos 0 ≤ℤ m → IsBit c → (x -ℤ m *ℤ c) ≤ℤ x
bit_least x m c h (inl e) = rw e (omega (arith, ints))
bit_least x m c h (inr e) = rw e (omega (arith, ints))

pub one_taken : (x m c : ℤ) → c ≡ pos 1 → x -ℤ m *ℤ c ≡ x -ℤ m
one_taken x m c e = rw e (omega (arith, ints))

pub none_taken : (x m c : ℤ) → c ≡ pos 0 → x -ℤ m *ℤ c ≡ x
none_taken x m c e = rw e (omega (arith, ints))

pub one_given : (x m c : ℤ) → c ≡ negsuc 0 → x -ℤ m *ℤ c ≡ x +ℤ m
one_given x m c e = rw e (omega (arith, ints))

-- ---- the terms of areas

-- the least number of an area that may have some class
pub term_is : (p : Problem) (allowed : Allowed) (f : Place → ℤ) (v : ℕ) → IsFilled p allowed → v < areas p → IsLeast (allowed v) (λ k. f (Choice v k)) p.classes (area_term_at p allowed f v)
term_is p allowed f v filled h =
    let some = filled v h in
    least_is (allowed v) (λ k. f (Choice v k)) p.classes some.0 some.1 some.2

-- it is at most each number of an allowed class
pub term_most : (p : Problem) (allowed : Allowed) (f : Place → ℤ) (v k : ℕ) → IsFilled p allowed → v < areas p → k < p.classes → allowed v k ≡ true → area_term_at p allowed f v ≤ℤ f (Choice v k)
term_most p allowed f v k filled h q t = (term_is p allowed f v filled h).least k q t

other_most : (p : Problem) (allowed : Allowed) (f c : Place → ℤ) (v k u : ℕ) (m : ℤ) → IsFilled p allowed → IsPush p c v k → pos 0 ≤ℤ m → u < areas p → u ≢ v → area_term_at p allowed (after_units f c m) u ≤ℤ area_term_at p allowed f u
other_most p allowed f c v k u m filled push low h apart =
    let old = term_is p allowed f u filled h in
    let is = old.is in
    let new = term_most p allowed (after_units f c m) u old.place filled h old.below old.passes in
    let less = bit_least (f (Choice u old.place)) m (c (Choice u old.place)) low (push.others u old.place apart) in
    omega (arith, ints)

other_same : (p : Problem) (allowed : Allowed) (f c : Place → ℤ) (v k u : ℕ) (m : ℤ) → IsFilled p allowed → IsPush p c v k → IsFree p allowed f c v k m → pos 0 ≤ℤ m → u < areas p → u ≢ v → area_term_at p allowed (after_units f c m) u ≡ area_term_at p allowed f u
other_same p allowed f c v k u m filled push free low h apart =
    let new = term_is p allowed (after_units f c m) u filled h in
    let is = new.is in
    let most = other_most p allowed f c v k u m filled push low h apart in
    let least : area_term_at p allowed f u ≤ℤ (f (Choice u new.place) -ℤ m *ℤ c (Choice u new.place)) =
    elim (push.others u new.place apart) [
      | inl e ↦
          (let same = none_taken (f (Choice u new.place)) m (c (Choice u new.place)) e in
          let old = term_most p allowed f u new.place filled h new.below new.passes in
          omega (arith, ints))
      | inr e ↦
          (let same = one_taken (f (Choice u new.place)) m (c (Choice u new.place)) e in
          let old = free.choices u new.place h apart new.below new.passes e in
          omega (arith, ints))
    ] in
    omega (arith, ints)

-- a number of the pushed area
own_number : (p : Problem) (f c : Place → ℤ) (v k j : ℕ) (m : ℤ) → IsPush p c v k → pos 0 ≤ℤ m → (after_units f c m (Choice v j) ≤ℤ (f (Choice v j) +ℤ m)) × (j ≢ k → after_units f c m (Choice v j) ≡ f (Choice v j)) × (j ≡ k → after_units f c m (Choice v j) ≡ f (Choice v j) +ℤ m)
own_number p f c v k j m push low =
    let apart : j ≢ k → after_units f c m (Choice v j) ≡ f (Choice v j) = λ ne. none_taken (f (Choice v j)) m (c (Choice v j)) (push.beside j ne) in
    let here : j ≡ k → after_units f c m (Choice v j) ≡ f (Choice v j) +ℤ m = λ e. one_given (f (Choice v j)) m (c (Choice v j)) (ap (λ i. c (Choice v i)) e ∙ push.raised) in
    by_test (j == k) _
    (λ e. let is = here ((Decides-eqb j k).0 e) in (omega (arith, ints), apart, here))
    (λ e. let is = apart (λ q. clash (sym e ∙ (Decides-eqb j k).1 q)) in (omega (arith, ints), apart, here))

own_most : (p : Problem) (allowed : Allowed) (f c : Place → ℤ) (v k : ℕ) (m : ℤ) → IsFilled p allowed → IsPush p c v k → pos 0 ≤ℤ m → area_term_at p allowed (after_units f c m) v ≤ℤ (area_term_at p allowed f v +ℤ m)
own_most p allowed f c v k m filled push low =
    let old = term_is p allowed f v filled push.area in
    let is = old.is in
    let new = term_most p allowed (after_units f c m) v old.place filled push.area old.below old.passes in
    let more = (own_number p f c v k old.place m push low).0 in
    omega (arith, ints)

own_rises : (p : Problem) (allowed : Allowed) (f c : Place → ℤ) (v k : ℕ) (m : ℤ) → IsFilled p allowed → IsPush p c v k → IsFree p allowed f c v k m → pos 0 ≤ℤ m → area_term_at p allowed (after_units f c m) v ≡ area_term_at p allowed f v +ℤ m
own_rises p allowed f c v k m filled push free low =
    let new = term_is p allowed (after_units f c m) v filled push.area in
    let is = new.is in
    let most = own_most p allowed f c v k m filled push low in
    let old = term_most p allowed f v k filled push.area push.class free.is_open in
    let least : (f (Choice v k) +ℤ m) ≤ℤ after_units f c m (Choice v new.place) =
    by_test (new.place == k) _
    (λ e.
    let here : new.place ≡ k = (Decides-eqb new.place k).0 e in
    let more = (own_number p f c v k new.place m push low).2 here in
    let same = ap (λ i. f (Choice v i)) here in
    omega (arith, ints))
    (λ e.
    let apart : new.place ≢ k = λ q. clash (sym e ∙ (Decides-eqb new.place k).1 q) in
    let same = (own_number p f c v k new.place m push low).1 apart in
    let above = free.rises new.place new.below new.passes apart in
    omega (arith, ints)) in
    omega (arith, ints)

-- the area gains nothing by a unit: its class is not allowed, or another class costs no more
own_stuck : (p : Problem) (allowed : Allowed) (f c : Place → ℤ) (v k : ℕ) → IsFilled p allowed → IsPush p c v k → ((allowed v k ≡ false) ⊎ ((j : ℕ) × (j < p.classes) × (allowed v j ≡ true) × (j ≢ k) × (f (Choice v j) ≤ℤ f (Choice v k)))) → area_term_at p allowed (after_units f c (pos 1)) v ≤ℤ area_term_at p allowed f v
own_stuck p allowed f c v k filled push why =
    let low : pos 0 ≤ℤ pos 1 = omega (arith, ints) in
    let old = term_is p allowed f v filled push.area in
    let is = old.is in
    by_test (old.place == k) _
    (λ e.
    let here : old.place ≡ k = (Decides-eqb old.place k).0 e in
    elim why [
      | inl shut ↦ clash (sym shut ∙ (ap (allowed v) (sym here) ∙ old.passes))
      | inr tie ↦
          (let new = term_most p allowed (after_units f c (pos 1)) v tie.0 filled push.area tie.1 tie.2 in
          let same = (own_number p f c v k tie.0 (pos 1) push low).1 tie.3 in
          let less = tie.4 in
          let at = ap (λ i. f (Choice v i)) here in
          omega (arith, ints))
    ])
    (λ e.
    let apart : old.place ≢ k = λ q. clash (sym e ∙ (Decides-eqb old.place k).1 q) in
    let new = term_most p allowed (after_units f c (pos 1)) v old.place filled push.area old.below old.passes in
    let same = (own_number p f c v k old.place (pos 1) push low).1 apart in
    omega (arith, ints))

-- ---- the terms of links

link_most : (p : Problem) (f c : Place → ℤ) (v k l : ℕ) (m : ℤ) → IsPush p c v k → pos 0 ≤ℤ m → link_term_at (after_units f c m) l ≤ℤ link_term_at f l
link_most p f c v k l m push low =
    let less = bit_least (f (Across l)) m (c (Across l)) low (push.links l) in
    omega (arith, ints, clamps)

link_same : (p : Problem) (allowed : Allowed) (f c : Place → ℤ) (v k l : ℕ) (m : ℤ) → IsPush p c v k → IsFree p allowed f c v k m → l < length p.links → pos 0 ≤ℤ f (Across l) → link_term_at (after_units f c m) l ≡ link_term_at f l
link_same p allowed f c v k l m push free h some =
    elim (push.links l) [
      | inl e ↦ (let same = none_taken (f (Across l)) m (c (Across l)) e in omega (arith, ints, clamps))
      | inr e ↦
          (let same = one_taken (f (Across l)) m (c (Across l)) e in
          let rest = free.links l h e in
          omega (arith, ints, clamps))
    ]

-- ---- sums with one term apart

sum_at_most : (n v : ℕ) (g h : ℕ → ℤ) (x : ℤ) → v < n → ((i : ℕ) → i < n → i ≢ v → g i ≤ℤ h i) → g v ≤ℤ (h v +ℤ x) → sum_below n g ≤ℤ (sum_below n h +ℤ x)
sum_at_most n v g h x q others here =
    let each = sum_below-le n g (λ i. h i +ℤ when (eqb v i) x) (λ i r. by_test (eqb v i) _
    (λ e.
    let is : v ≡ i = (Decides-eqb v i).0 e in
    rw e (subst (λ (j : ℕ). g j ≤ℤ (h j +ℤ x)) is here))
    (λ e.
    let apart : i ≢ v = λ s. clash (sym e ∙ (Decides-eqb v i).1 (sym s)) in
    let less = others i r apart in
    rw e (omega (arith, ints)))) in
    let both = sum_below-add n h (λ i. when (eqb v i) x) in
    let point = sum_below-point n v (λ _. x) q in
    omega (arith, ints)

sum_is : (n v : ℕ) (g h : ℕ → ℤ) (x : ℤ) → v < n → ((i : ℕ) → i < n → i ≢ v → g i ≡ h i) → g v ≡ h v +ℤ x → sum_below n g ≡ sum_below n h +ℤ x
sum_is n v g h x q others here =
    let each = sum_below-same n g (λ i. h i +ℤ when (eqb v i) x) (λ i r. by_test (eqb v i) _
    (λ e.
    let is : v ≡ i = (Decides-eqb v i).0 e in
    rw e (subst (λ (j : ℕ). g j ≡ h j +ℤ x) is here))
    (λ e.
    let apart : i ≢ v = λ s. clash (sym e ∙ (Decides-eqb v i).1 (sym s)) in
    let less = others i r apart in
    rw e (omega (arith, ints)))) in
    let both = sum_below-add n h (λ i. when (eqb v i) x) in
    let point = sum_below-point n v (λ _. x) q in
    omega (arith, ints)

-- with a second term that loses x
sum_loses : (n v u : ℕ) (g h : ℕ → ℤ) → v < n → u < n → u ≢ v → ((i : ℕ) → i < n → i ≢ v → g i ≤ℤ h i) → g v ≤ℤ (h v +ℤ pos 1) → g u ≤ℤ (h u -ℤ pos 1) → sum_below n g ≤ℤ sum_below n h
sum_loses n v u g h q r apart others here there =
    let lost = sum_at_most n u (λ i. h i +ℤ when (eqb u i) (negsuc 0)) h (negsuc 0) r
    (λ i s ne.
    let off = eqb_off u i ne in
    rw off (omega (arith, ints)))
    (let on = (Decides-eqb u u).1 refl in rw on (omega (arith, ints))) in
    let rest = sum_at_most n v g (λ i. h i +ℤ when (eqb u i) (negsuc 0)) (pos 1) q
    (λ i s ne. by_test (eqb u i) _
    (λ e.
    let is : u ≡ i = (Decides-eqb u i).0 e in
    rw e (let low = subst (λ (j : ℕ). g j ≤ℤ (h j -ℤ pos 1)) is there in omega (arith, ints)))
    (λ e. let low = others i s ne in rw e (omega (arith, ints))))
    (let off = eqb_off u v (λ e. apart (sym e)) in rw off (omega (arith, ints))) in
    omega (arith, ints)
  where
    eqb_off : (a b : ℕ) → b ≢ a → eqb a b ≡ false
    eqb_off a b ne = by_test (eqb a b) _ (λ e. absurd (ne (sym ((Decides-eqb a b).0 e)))) (λ e. e)

-- ---- the total

-- free units add as much to the total
pub free_total : (p : Problem) (allowed : Allowed) (f c : Place → ℤ) (v k : ℕ) (m : ℤ) → IsFilled p allowed → IsPush p c v k → IsFree p allowed f c v k m → pos 0 ≤ℤ m → ((l : ℕ) → l < length p.links → pos 0 ≤ℤ f (Across l)) → total_of p allowed (after_units f c m) ≡ total_of p allowed f +ℤ m
free_total p allowed f c v k m filled push free low links =
    let areas_part = sum_is (areas p) v (area_term_at p allowed (after_units f c m)) (area_term_at p allowed f) m push.area
    (λ u h ne. other_same p allowed f c v k u m filled push free low h ne)
    (own_rises p allowed f c v k m filled push free low) in
    let links_part = sum_below-same (length p.links) (link_term_at (after_units f c m)) (link_term_at f) (λ l h. link_same p allowed f c v k l m push free h (links l h)) in
    omega (arith, ints)

-- the least number of an area after free units
pub free_term : (p : Problem) (allowed : Allowed) (f c : Place → ℤ) (v k u : ℕ) (m : ℤ) → IsFilled p allowed → IsPush p c v k → IsFree p allowed f c v k m → pos 0 ≤ℤ m → u < areas p → area_term_at p allowed f u ≤ℤ area_term_at p allowed (after_units f c m) u
free_term p allowed f c v k u m filled push free low h =
    by_test (u == v) _
    (λ e.
    let is : u ≡ v = (Decides-eqb u v).0 e in
    let rises = own_rises p allowed f c v k m filled push free low in
    subst (λ (x : ℕ). area_term_at p allowed f x ≤ℤ area_term_at p allowed (after_units f c m) x) (sym is) (omega (arith, ints)))
    (λ e.
    let apart : u ≢ v = λ q. clash (sym e ∙ (Decides-eqb u v).1 q) in
    let same = other_same p allowed f c v k u m filled push free low h apart in
    omega (arith, ints))

-- where units are stuck, one more gives no greater total
pub stuck_total : (p : Problem) (allowed : Allowed) (f c : Place → ℤ) (v k : ℕ) → IsFilled p allowed → IsPush p c v k → IsStuck p allowed f c v k → total_of p allowed (after_units f c (pos 1)) ≤ℤ total_of p allowed f
stuck_total p allowed f c v k filled push why =
    elim why [
      | Shut e ↦ by_area (own_stuck p allowed f c v k filled push (inl e))
      | Tied j q t ne less ↦ by_area (own_stuck p allowed f c v k filled push (inr (j, q, t, ne, less)))
      | Leans u j h ne q t e less ↦
          (let new = term_most p allowed (after_units f c (pos 1)) u j filled h q t in
          let one = one_taken (f (Choice u j)) (pos 1) (c (Choice u j)) e in
          let part = sum_loses (areas p) v u (area_term_at p allowed (after_units f c (pos 1))) (area_term_at p allowed f) push.area h ne others own (omega (arith, ints)) in
          omega (arith, ints, links_part))
      | Spent l h e less ↦
          (let one = one_taken (f (Across l)) (pos 1) (c (Across l)) e in
          let areas_part = sum_at_most (areas p) v (area_term_at p allowed (after_units f c (pos 1))) (area_term_at p allowed f) (pos 1) push.area others own in
          let part = sum_at_most (length p.links) l (link_term_at (after_units f c (pos 1))) (link_term_at f) (negsuc 0) h (λ i r _. link_most p f c v k i (pos 1) push low) (omega (arith, ints, clamps)) in
          omega (arith, ints))
    ]
  where
    low : pos 0 ≤ℤ pos 1
    low = omega (arith, ints)

    others : (u : ℕ) → u < areas p → u ≢ v → area_term_at p allowed (after_units f c (pos 1)) u ≤ℤ area_term_at p allowed f u
    others u h ne = other_most p allowed f c v k u (pos 1) filled push low h ne

    own : area_term_at p allowed (after_units f c (pos 1)) v ≤ℤ (area_term_at p allowed f v +ℤ pos 1)
    own = own_most p allowed f c v k (pos 1) filled push low

    links_part : sum_below (length p.links) (link_term_at (after_units f c (pos 1))) ≤ℤ sum_below (length p.links) (link_term_at f)
    links_part = sum_below-le (length p.links) (link_term_at (after_units f c (pos 1))) (link_term_at f) (λ l _. link_most p f c v k l (pos 1) push low)

    by_area : area_term_at p allowed (after_units f c (pos 1)) v ≤ℤ area_term_at p allowed f v → total_of p allowed (after_units f c (pos 1)) ≤ℤ total_of p allowed f
    by_area less =
        let areas_part = sum_at_most (areas p) v (area_term_at p allowed (after_units f c (pos 1))) (area_term_at p allowed f) (pos 0) push.area others (omega (arith, ints)) in
        omega (arith, ints, links_part)
