-- The tips after one number was raised or lowered.
use Rattle.std.proofs.Common.{◌≡◌, ◌≢◌, ℕ, ◌<◌, true, false, List, length, set, refl, ap, sym, ◌∙◌, arith, subst, inl, inr, get_or-set_same, get_or-set_other}
use Rattle.std.specs.Prelude.{ℤ, pos, neg_ℤ, ◌+ℤ◌, ◌-ℤ◌, ◌≤ℤ◌, ◌==◌}
use Rattle.std.specs.Int.{int_min}
use Rattle.std.proofs.lemmas.Int.{ints}
use Rattle.agg_model.specs.Problem.{Problem, areas}
use Rattle.row_laws.specs.Values.{Allowed}
use Rattle.row_laws.proofs.Tests.{by_test}
use Rattle.bound_rows.specs.Scratch.{Numbers, HasRoom}
use Rattle.relax_bound.specs.declared.tips.Tip.{Tip}
use Rattle.relax_bound.specs.Levels.{number, lowered_choice, lowered_link, IsGap, IsTip, AreTips, tip_at}
use Rattle.relax_bound.proofs.PushLemmas.{of_eqb, of_not}
use Rattle.relax_bound.proofs.TipLemmas.{tip_same, tip_shut, tip_leans, tip_lowest_raised}
use Rattle.relax_bound.proofs.NumberLemmas.{lowered_here, lowered_other, tips_one}

tip_here : (tips : List Tip) (v : ℕ) (t : Tip) → v < length tips → tip_at (set tips v t) v ≡ t
tip_here tips v t h = rw get_or-set_same refl

tip_there : (tips : List Tip) (v u : ℕ) (t : Tip) → u ≢ v → tip_at (set tips v t) u ≡ tip_at tips u
tip_there tips v u t ne = rw get_or-set_other refl

-- the same amount
pub lowered_as : (p : Problem) (s s' : Numbers) (v k : ℕ) (x y : ℤ) → s' ≡ lowered_choice p s v k x → x ≡ y → s' ≡ lowered_choice p s v k y
lowered_as p s s' v k x y e is = e ∙ ap (lowered_choice p s v k) is

-- ---- a number that is raised

-- it stays the least one of its area, and 0 or more
pub raised_lowest : (p : Problem) (allowed : Allowed) (s s' : Numbers) (tips : List Tip) (v : ℕ) (t : Tip) (m : ℤ) → HasRoom p s → AreTips p allowed s tips → v < areas p → t ≡ tip_at tips v → pos 0 ≤ℤ m → m ≤ℤ t.gap → s' ≡ lowered_choice p s v t.class (neg_ℤ m) → (number p s' v t.class ≡ number p s v t.class +ℤ m) × (pos 0 ≤ℤ number p s' v t.class) × ((j : ℕ) → j < p.classes → allowed v j ≡ true → number p s' v t.class ≤ℤ number p s' v j)
raised_lowest p allowed s s' tips v t m room all h is low gap e =
    let tip : IsTip (allowed v) (number p s v) p.classes t = subst (λ (x : Tip). IsTip (allowed v) (number p s v) p.classes x) (sym is) (all.each v h) in
    let here : number p s' v t.class ≡ number p s v t.class +ℤ m = ap (λ (x : Numbers). number p x v t.class) e ∙ (lowered_here p s v t.class (neg_ℤ m) room h tip.class ∙ back (number p s v t.class)) in
    let same : (j : ℕ) → j < p.classes → j ≢ t.class → number p s' v j ≡ number p s v j = λ j q ne. ap (λ (x : Numbers). number p x v j) e ∙ lowered_other p s v t.class v j (neg_ℤ m) room h tip.class h q (inr ne) in
    let least = tip.least in
    let least0 = tip.low in
    (here, omega (arith, ints), tip_lowest_raised (allowed v) (number p s v) (number p s' v) p.classes t m gap here same tip)
  where
    back : (x : ℤ) → x -ℤ neg_ℤ m ≡ x +ℤ m
    back x = omega (arith, ints)

pub raised : (p : Problem) (allowed : Allowed) (s s' : Numbers) (tips tips' : List Tip) (v : ℕ) (t : Tip) (m least gap : ℤ) → HasRoom p s → AreTips p allowed s tips → v < areas p → t ≡ tip_at tips v → pos 0 ≤ℤ m → m ≤ℤ t.gap → s' ≡ lowered_choice p s v t.class (neg_ℤ m) → IsGap (allowed v) (number p s' v) p.classes t.class gap → least ≡ t.least +ℤ m → tips' ≡ set tips v (record { class = t.class; least = least; gap = gap }) → AreTips p allowed s' tips' × ((u : ℕ) → u ≢ v → tip_at tips' u ≡ tip_at tips u)
raised p allowed s s' tips tips' v t m least gap room all h is low under e new_gap sum list =
    let tip : IsTip (allowed v) (number p s v) p.classes t = subst (λ (x : Tip). IsTip (allowed v) (number p s v) p.classes x) (sym is) (all.each v h) in
    let lowest = raised_lowest p allowed s s' tips v t m room all h is low under e in
    let here = lowest.0 in
    let was = tip.least in
    let was0 = tip.low in
    let t' : Tip = record { class = t.class; least = least; gap = gap } in
    let new : IsTip (allowed v) (number p s' v) p.classes t' = record {
      class = tip.class;
      is_open = tip.is_open;
      least = omega (arith, ints);
      low = omega (arith, ints);
      gap = new_gap;
    } in
    let same : (u j : ℕ) → u < areas p → j < p.classes → u ≢ v → number p s' u j ≡ number p s u j = λ u j hu hj ne. ap (λ (x : Numbers). number p x u j) e ∙ lowered_other p s v t.class u j (neg_ℤ m) room h tip.class hu hj (inl ne) in (
      subst (λ (x : List Tip). AreTips p allowed s' x) (sym list) (tips_one p allowed s s' tips v t' all h same new),
      λ u ne. ap (λ (x : List Tip). tip_at x u) list ∙ tip_there tips v u t' ne,
    )

-- ---- a number that is lowered

pub leaned : (p : Problem) (allowed : Allowed) (s s' : Numbers) (tips tips' : List Tip) (v k : ℕ) (t : Tip) (m gap : ℤ) → HasRoom p s → AreTips p allowed s tips → v < areas p → k < p.classes → allowed v k ≡ true → t ≡ tip_at tips v → pos 1 ≤ℤ m → m ≤ℤ (number p s v k -ℤ (tip_at tips v).least) → s' ≡ lowered_choice p s v k m → gap ≡ int_min t.gap (number p s' v k -ℤ t.least) → tips' ≡ set tips v (record { class = t.class; least = t.least; gap = gap }) → AreTips p allowed s' tips' × ((u : ℕ) → (tip_at tips' u).least ≡ (tip_at tips u).least)
leaned p allowed s s' tips tips' v k t m gap room all h q open' is some drop e gap_is list =
    let tip : IsTip (allowed v) (number p s v) p.classes t = subst (λ (x : Tip). IsTip (allowed v) (number p s v) p.classes x) (sym is) (all.each v h) in
    let here : number p s' v k ≡ number p s v k -ℤ m = ap (λ (x : Numbers). number p x v k) e ∙ lowered_here p s v k m room h q in
    let kept : (j : ℕ) → j < p.classes → j ≢ k → number p s' v j ≡ number p s v j = λ j hj ne. ap (λ (x : Numbers). number p x v j) e ∙ lowered_other p s v k v j m room h q h hj (inr ne) in
    let same : (u j : ℕ) → u < areas p → j < p.classes → u ≢ v → number p s' u j ≡ number p s u j = λ u j hu hj ne. ap (λ (x : Numbers). number p x u j) e ∙ lowered_other p s v k u j m room h q hu hj (inl ne) in
    let least = ap (λ (x : Tip). x.least) is in
    let above : t.least ≤ℤ number p s' v k = omega (arith, ints) in
    let new = tip_leans (allowed v) (number p s v) (number p s' v) p.classes k t m q open' some here above kept tip in
    let t' : Tip = record { class = t.class; least = t.least; gap = gap } in
    let new' : IsTip (allowed v) (number p s' v) p.classes t' = subst (λ (x : ℤ). IsTip (allowed v) (number p s' v) p.classes (record { class = t.class; least = t.least; gap = x })) (sym gap_is) new in
    let lt : v < length tips = (let n = all.count in omega arith) in (
      subst (λ (x : List Tip). AreTips p allowed s' x) (sym list) (tips_one p allowed s s' tips v t' all h same new'),
      λ u. ap (λ (x : List Tip). (tip_at x u).least) list ∙ by_test (u == v) _
          (λ y.
          let at : u ≡ v = of_eqb u v y in
          ap (λ i. (tip_at (set tips v t') i).least) at ∙ (ap (λ (x : Tip). x.least) (tip_here tips v t' lt) ∙ (least ∙ ap (λ i. (tip_at tips i).least) (sym at))))
          (λ y. ap (λ (x : Tip). x.least) (tip_there tips v u t' (of_not u v y))),
    )

-- the number of a class that is not allowed is
pub shut_leaned : (p : Problem) (allowed : Allowed) (s s' : Numbers) (tips : List Tip) (v k : ℕ) (m : ℤ) → HasRoom p s → AreTips p allowed s tips → v < areas p → k < p.classes → allowed v k ≡ false → s' ≡ lowered_choice p s v k m → AreTips p allowed s' tips
shut_leaned p allowed s s' tips v k m room all h q shut e = record {
  count = all.count;
  each = λ u hu. by_test (u == v) _
      (λ y.
      let at : u ≡ v = of_eqb u v y in
      let kept : (j : ℕ) → j < p.classes → j ≢ k → number p s' u j ≡ number p s u j = λ j hj ne. ap (λ (x : Numbers). number p x u j) e ∙ lowered_other p s v k u j m room h q hu hj (inr ne) in
      tip_shut (allowed u) (number p s u) (number p s' u) p.classes k (tip_at tips u) (ap (λ i. allowed i k) at ∙ shut) kept (all.each u hu))
      (λ y.
      let ne : u ≢ v = of_not u v y in
      tip_same (allowed u) (number p s u) (number p s' u) p.classes (tip_at tips u) (λ j hj. ap (λ (x : Numbers). number p x u j) e ∙ lowered_other p s v k u j m room h q hu hj (inl ne)) (all.each u hu));
}

-- ---- one number after another

-- a number of a class is no less after one of that class was raised
pub raised_number : (p : Problem) (s s' : Numbers) (v k u : ℕ) (m : ℤ) → HasRoom p s → v < areas p → k < p.classes → u < areas p → pos 0 ≤ℤ m → s' ≡ lowered_choice p s v k (neg_ℤ m) → number p s u k ≤ℤ number p s' u k
raised_number p s s' v k u m room h q hu low e =
    by_test (u == v) _
    (λ y.
    let at : u ≡ v = of_eqb u v y in
    let here = ap (λ (x : Numbers). number p x v k) e ∙ lowered_here p s v k (neg_ℤ m) room h q in
    subst (λ (i : ℕ). number p s i k ≤ℤ number p s' i k) (sym at) (omega (arith, ints)))
    (λ y.
    let same = ap (λ (x : Numbers). number p x u k) e ∙ lowered_other p s v k u k (neg_ℤ m) room h q hu q (inl (of_not u v y)) in
    omega (arith, ints))

-- the three changes of a border row
pub three_steps : (p : Problem) (s s1 s2 s3 : Numbers) (l near near' far far' k k' k'' : ℕ) (m n : ℤ) → s1 ≡ lowered_link s l n → s2 ≡ lowered_choice p s1 near k' (neg_ℤ n) → s3 ≡ lowered_choice p s2 far k'' n → near ≡ near' → far ≡ far' → k' ≡ k → k'' ≡ k → n ≡ m → s3 ≡ lowered_choice p (lowered_choice p (lowered_link s l m) near' k (neg_ℤ m)) far' k m
three_steps p s s1 s2 s3 l near near' far far' k k' k'' m n e1 e2 e3 en ef ek ek' em =
    let A : ℕ → ℕ → ℕ → ℕ → ℤ → Numbers = λ a b c d x. lowered_choice p (lowered_choice p (lowered_link s l x) a c (neg_ℤ x)) b d x in
    let all : s3 ≡ A near far k' k'' n = e3 ∙ ap (λ (x : Numbers). lowered_choice p x far k'' n) (e2 ∙ ap (λ (x : Numbers). lowered_choice p x near k' (neg_ℤ n)) e1) in
    all ∙ (ap (λ i. A i far k' k'' n) en ∙ (ap (λ i. A near' i k' k'' n) ef ∙ (ap (λ i. A near' far' i k'' n) ek ∙ (ap (λ i. A near' far' k i n) ek' ∙ ap (A near' far' k k) em))))
