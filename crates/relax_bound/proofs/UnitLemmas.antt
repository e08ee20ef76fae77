-- How far a row may be taken, from the tips of areas, and that it may be taken no farther.
use Rattle.std.proofs.Common.{◌≡◌, ◌≢◌, ℕ, ◌*◌, ◌^◌, ◌<◌, ◌≤◌, Bool, true, List, [], ◌∷◌, length, refl, ap, sym, ◌∙◌, arith, subst, ◌⊎◌, inl, inr}
use Rattle.std.specs.Prelude.{ℤ, pos, ◌+ℤ◌, ◌-ℤ◌, ◌*ℤ◌, ◌≤ℤ◌, ◌==◌}
use Rattle.std.specs.Prelude.{FitsSigned}
use Rattle.std.specs.Int.{w128, int_min}
use Rattle.std.proofs.lemmas.Int.{ints, clamps, to_z-of_z}
use mir.Val.{to_z, of_z}
use mathlib.Core.Path.{fun_ext}
use lib.IntN.{*ℤ_comm}
use Rattle.whole_ring.proofs.Laws.{*ℤ-+ℤ}
use Rattle.agg_model.specs.Problem.{Problem, IsProblem, areas}
use Rattle.row_laws.specs.declared.row.Row.{Row}
use Rattle.row_laws.specs.declared.row.Row.TheVariants.{Border, Escape}
use Rattle.row_laws.specs.Rows.{Place, Choice, Across, near_end, far_end, IsEscape}
use Rattle.row_laws.specs.Values.{RowSum, Allowed, left_at, total}
use Rattle.row_laws.specs.Exact.{area_term_at}
use Rattle.row_laws.proofs.Tests.{by_test}
use Rattle.bound_rows.specs.Scratch.{Numbers, IsAt, way_to}
use Rattle.bound_rows.proofs.WayLemmas.{way_below}
use Rattle.relax_bound.specs.declared.tips.Tip.{Tip}
use Rattle.relax_bound.specs.Ascents.{with_row, IsVain}
use Rattle.relax_bound.specs.Levels.{total_of, coefficient, after_units, IsPush, IsFree, IsFilled, IsStuck, Shut, Tied, Leans, Spent, IsTip, AreTips, tip_at, number, link_number, drop_of, drop_at, IsLeastOfThree, IsMet}
use Rattle.relax_bound.proofs.SumLemmas.{total_more}
use Rattle.relax_bound.proofs.LeastLemmas.{least_same, min_is}
use Rattle.relax_bound.proofs.GainLemmas.{none_taken, one_taken, one_given, term_is, free_term, stuck_total}
use Rattle.relax_bound.proofs.PushLemmas.{IsWayTo, ends_apart, escape_link, of_eqb, of_not, border_push, border_far, border_far_one, border_across, border_across_one, near_below, far_below, escape_push, escape_way, escape_way_one, way_apart}

-- ---- tips

-- the numbers of the choices, where the lists hold them
pub number_is : (p : Problem) (f : Place → ℤ) (s : Numbers) (v k : ℕ) → IsAt p f s → v < areas p → k < p.classes → number p s v k ≡ f (Choice v k)
number_is p f s v k at h q = at.choices v k h q

-- no number of an allowed class is less than that of the tip
pub tip_lowest : (ok : ℕ → Bool) (g : ℕ → ℤ) (n : ℕ) (t : Tip) (j : ℕ) → IsTip ok g n t → j < n → ok j ≡ true → g t.class ≤ℤ g j
tip_lowest ok g n t j tip h e =
    by_test (j == t.class) _
    (λ s. let same = ap g (of_eqb j t.class s) in omega (arith, ints))
    (λ s.
    let above = tip.gap.above j h e (of_not j t.class s) in
    let low = tip.gap.low in
    omega (arith, ints))

-- a tip has the least number of its area
pub tip_term : (p : Problem) (allowed : Allowed) (f : Place → ℤ) (s : Numbers) (tips : List Tip) (v : ℕ) → IsFilled p allowed → IsAt p f s → AreTips p allowed s tips → v < areas p → area_term_at p allowed f v ≡ (tip_at tips v).least
tip_term p allowed f s tips v filled at all h =
    let tip = all.each v h in
    let t = tip_at tips v in
    least_same (allowed v) (λ k. f (Choice v k)) p.classes _ t.least (term_is p allowed f v filled h)
    (record {
      place = t.class;
      below = tip.class;
      passes = tip.is_open;
      is = sym (number_is p f s v t.class at h tip.class) ∙ sym tip.least;
      least = λ j q e. (let low = tip_lowest (allowed v) (number p s v) p.classes t j tip q e in let is = number_is p f s v j at h q in let least = tip.least in omega (arith, ints));
    })

-- ---- one row of the class of the tip

-- the rises of a row of the class of a tip
rises_of : (p : Problem) (allowed : Allowed) (f : Place → ℤ) (s : Numbers) (v : ℕ) (t : Tip) (m : ℤ) → IsAt p f s → v < areas p → IsTip (allowed v) (number p s v) p.classes t → m ≤ℤ t.gap → (j : ℕ) → j < p.classes → allowed v j ≡ true → j ≢ t.class → (f (Choice v t.class) +ℤ m) ≤ℤ f (Choice v j)
rises_of p allowed f s v t m at h tip most j q e ne =
    let above = tip.gap.above j q e ne in
    let is = number_is p f s v j at h q in
    let here = number_is p f s v t.class at h tip.class in
    omega (arith, ints)

pub drop_above : (b : Bool) (x least m : ℤ) → b ≡ true → m ≤ℤ drop_of b x least → least ≤ℤ (x -ℤ m)
drop_above b x least m e h =
    let is : m ≤ℤ (x -ℤ least) = rw e at h in
    omega (arith, ints)

-- the area of a choice that is lowered keeps its least number
choice_free : (p : Problem) (allowed : Allowed) (f : Place → ℤ) (s : Numbers) (tips : List Tip) (u k : ℕ) (m : ℤ) → IsFilled p allowed → IsAt p f s → AreTips p allowed s tips → u < areas p → k < p.classes → allowed u k ≡ true → m ≤ℤ drop_at p allowed s tips u k → area_term_at p allowed f u ≤ℤ (f (Choice u k) -ℤ m)
choice_free p allowed f s tips u k m filled at all h q e most =
    let term = tip_term p allowed f s tips u filled at all h in
    let is = number_is p f s u k at h q in
    let above = drop_above (allowed u k) (number p s u k) (tip_at tips u).least m e most in
    omega (arith, ints)

-- no row of the class is taken farther: the gap of the tip is used up
gap_stuck : (p : Problem) (allowed : Allowed) (f c : Place → ℤ) (s : Numbers) (v : ℕ) (t : Tip) (m : ℤ) → IsAt p f s → v < areas p → IsTip (allowed v) (number p s v) p.classes t → IsPush p c v t.class → m ≡ t.gap → (m ≡ pos (2 ^ 111)) ⊎ IsStuck p allowed (after_units f c m) c v t.class
gap_stuck p allowed f c s v t m at h tip push is =
    elim tip.gap.tied [
      | inl most ↦ inl (is ∙ most)
      | inr tie ↦
          (let other = number_is p f s v tie.0 at h tie.1 in
          let own = number_is p f s v t.class at h tip.class in
          let kept = none_taken (f (Choice v tie.0)) m (c (Choice v tie.0)) (push.beside tie.0 tie.3) in
          let given = one_given (f (Choice v t.class)) m (c (Choice v t.class)) push.raised in
          let same = tie.4 in
          inr (Tied tie.0 tie.1 tie.2 tie.3 (omega (arith, ints))))
    ]

-- or the drop of another area is
drop_stuck : (p : Problem) (allowed : Allowed) (f c : Place → ℤ) (s : Numbers) (tips : List Tip) (v k u : ℕ) (m : ℤ) → IsFilled p allowed → IsAt p f s → AreTips p allowed s tips → IsPush p c v k → IsFree p allowed f c v k m → pos 0 ≤ℤ m → u < areas p → u ≢ v → c (Choice u k) ≡ pos 1 → m ≡ drop_at p allowed s tips u k → (m ≡ pos (2 ^ 111)) ⊎ IsStuck p allowed (after_units f c m) c v k
drop_stuck p allowed f c s tips v k u m filled at all push free low h ne e is =
    by_test (allowed u k) _
    (λ t.
    let drop : m ≡ number p s u k -ℤ (tip_at tips u).least = rw t at is in
    let term = tip_term p allowed f s tips u filled at all h in
    let number' = number_is p f s u k at h push.class in
    let taken = one_taken (f (Choice u k)) m (c (Choice u k)) e in
    let kept = free_term p allowed f c v k u m filled push free low h in
    inr (Leans u k h ne push.class t e (omega (arith, ints))))
    (λ t.
    let most : m ≡ pos (2 ^ 111) = rw t at is in
    inl most)

-- ---- border rows

pub min3 : (a b c m : ℤ) → m ≡ int_min (int_min a b) c → (m ≤ℤ a) × (m ≤ℤ b) × (m ≤ℤ c)
min3 a b c m e = (omega (arith, ints, clamps), omega (arith, ints, clamps), omega (arith, ints, clamps))

-- the same of numbers of 128 bits
pub min3_of : (a b c g l d x y : ℤ) → FitsSigned w128 g → FitsSigned w128 l → FitsSigned w128 d → FitsSigned w128 x → FitsSigned w128 y → g ≡ a → l ≡ b → d ≡ c → x ≡ int_min (to_z w128 (of_z w128 g)) (to_z w128 (of_z w128 l)) → y ≡ int_min (to_z w128 (of_z w128 x)) (to_z w128 (of_z w128 d)) → to_z w128 (of_z w128 y) ≡ int_min (int_min a b) c
min3_of a b c g l d x y fg fl fd fx fy eg el ed ex ey =
    let zg = to_z-of_z w128 g fg ∙ eg in
    let zl = to_z-of_z w128 l fl ∙ el in
    let zd = to_z-of_z w128 d fd ∙ ed in
    let zx = to_z-of_z w128 x fx ∙ (ex ∙ (ap (λ (t : ℤ). int_min t (to_z w128 (of_z w128 l))) zg ∙ ap (int_min a) zl)) in
    to_z-of_z w128 y fy ∙ (ey ∙ (ap (λ (t : ℤ). int_min t (to_z w128 (of_z w128 d))) zx ∙ ap (int_min (int_min a b)) zd))

one_of3 : (a b c m : ℤ) → m ≡ int_min (int_min a b) c → (m ≡ a) ⊎ ((m ≡ b) ⊎ (m ≡ c))
one_of3 a b c m e =
    elim (min_is (int_min a b) c) [
      | inl x ↦ elim (min_is a b) [ inl y ↦ inl (e ∙ (x.0 ∙ y.0)) | inr y ↦ inr (inl (e ∙ (x.0 ∙ y.0))) ]
      | inr x ↦ inr (inr (e ∙ x.0))
    ]

pub three_most : (p : Problem) (allowed : Allowed) (s : Numbers) (tips : List Tip) (l side : ℕ) (m : ℤ) → IsLeastOfThree p allowed s tips l side m → (m ≤ℤ (tip_at tips (near_end p l side)).gap) × (m ≤ℤ link_number s l) × (m ≤ℤ drop_at p allowed s tips (far_end p l side) (tip_at tips (near_end p l side)).class)
three_most p allowed s tips l side m three = min3 (tip_at tips (near_end p l side)).gap (link_number s l) (drop_at p allowed s tips (far_end p l side) (tip_at tips (near_end p l side)).class) m three.is

pub border_free : (p : Problem) (allowed : Allowed) (f : Place → ℤ) (s : Numbers) (tips : List Tip) (l side : ℕ) (m : ℤ) → IsProblem p → IsFilled p allowed → IsAt p f s → AreTips p allowed s tips → l < length p.links → IsLeastOfThree p allowed s tips l side m → IsFree p allowed f (coefficient p (Border l side (tip_at tips (near_end p l side)).class)) (near_end p l side) (tip_at tips (near_end p l side)).class m
border_free p allowed f s tips l side m ok filled at all h three =
    let near = near_end p l side in
    let far = far_end p l side in
    let t = tip_at tips near in
    let tip = all.each near (near_below p l side ok h) in
    let most = min3 t.gap (link_number s l) (drop_at p allowed s tips far t.class) m three.is in
    record {
      is_open = tip.is_open;
      rises = rises_of p allowed f s near t m at (near_below p l side ok h) tip most.0;
      choices = λ u j hu ne hj e one.
          (let place = border_far p l side t.class u j ok h ne one in
          let here = choice_free p allowed f s tips far t.class m filled at all (far_below p l side ok h) tip.class (sym (ap (allowed far) place.1) ∙ (sym (ap (λ x. allowed x j) place.0) ∙ e)) most.2 in
          subst (λ (x : ℕ). area_term_at p allowed f x ≤ℤ (f (Choice x j) -ℤ m)) (sym place.0) (subst (λ (x : ℕ). area_term_at p allowed f far ≤ℤ (f (Choice far x) -ℤ m)) (sym place.1) here));
      links = λ i hi one.
          (let place = border_across p l side t.class i one in
          let number' = at.links l h in
          let same = ap (λ x. f (Across x)) place in
          let link = most.1 in
          omega (arith, ints));
    }

pub border_stuck : (p : Problem) (allowed : Allowed) (f : Place → ℤ) (s : Numbers) (tips : List Tip) (l side : ℕ) (m : ℤ) → IsProblem p → IsFilled p allowed → IsAt p f s → AreTips p allowed s tips → l < length p.links → side ≤ 1 → IsLeastOfThree p allowed s tips l side m → pos 0 ≤ℤ m → (m ≡ pos (2 ^ 111)) ⊎ IsStuck p allowed (after_units f (coefficient p (Border l side (tip_at tips (near_end p l side)).class)) m) (coefficient p (Border l side (tip_at tips (near_end p l side)).class)) (near_end p l side) (tip_at tips (near_end p l side)).class
border_stuck p allowed f s tips l side m ok filled at all h two three low =
    let near = near_end p l side in
    let far = far_end p l side in
    let t = tip_at tips near in
    let tip = all.each near (near_below p l side ok h) in
    let c = coefficient p (Border l side t.class) in
    let push = border_push p l side t.class ok (h, two, tip.class) in
    let free = border_free p allowed f s tips l side m ok filled at all h three in
    elim (one_of3 t.gap (link_number s l) (drop_at p allowed s tips far t.class) m three.is) [
      | inl e ↦ gap_stuck p allowed f c s near t m at (near_below p l side ok h) tip push e
      | inr rest ↦ elim rest [
        | inl e ↦
            (let number' = at.links l h in
            let one = border_across_one p l side t.class in
            let taken = one_taken (f (Across l)) m (c (Across l)) one in
            inr (Spent l h one (omega (arith, ints))))
        | inr e ↦ drop_stuck p allowed f c s tips near t.class far m filled at all push free low (far_below p l side ok h) (λ q. ends_apart p l side ok h (sym q)) (border_far_one p l side t.class ok h) e
      ]
    ]

-- ---- escape rows of an area alone

pub escape_free : (p : Problem) (allowed : Allowed) (f : Place → ℤ) (s : Numbers) (tips : List Tip) (v : ℕ) (m : ℤ) → IsProblem p → IsFilled p allowed → IsAt p f s → AreTips p allowed s tips → v < areas p → IsMet p allowed s tips v m → IsFree p allowed f (coefficient p (Escape v (tip_at tips v).class (v ∷ []))) v (tip_at tips v).class m
escape_free p allowed f s tips v m ok filled at all h met =
    let t = tip_at tips v in
    let tip = all.each v h in
    record {
      is_open = tip.is_open;
      rises = rises_of p allowed f s v t m at h tip met.gap;
      choices = λ u j hu ne hj e one.
          (let place = escape_way p v t.class u j ok ne one in
          let way = place.1 in
          let most = met.drops way.0 way.1.0 way.1.1 in
          let most' : m ≤ℤ drop_at p allowed s tips u t.class = subst (λ (x : ℕ). m ≤ℤ drop_at p allowed s tips x t.class) way.1.2 most in
          let here = choice_free p allowed f s tips u t.class m filled at all hu tip.class (sym (ap (allowed u) place.0) ∙ e) most' in
          subst (λ (x : ℕ). area_term_at p allowed f u ≤ℤ (f (Choice u x) -ℤ m)) (sym place.0) here);
      links = λ l hl one. (let none = escape_link p v t.class l ok in absurd (omega (arith, ints)));
    }

pub escape_stuck : (p : Problem) (allowed : Allowed) (f : Place → ℤ) (s : Numbers) (tips : List Tip) (v : ℕ) (m : ℤ) → IsProblem p → IsFilled p allowed → IsAt p f s → AreTips p allowed s tips → IsEscape p v (tip_at tips v).class (v ∷ []) → IsMet p allowed s tips v m → pos 0 ≤ℤ m → (m ≡ pos (2 ^ 111)) ⊎ IsStuck p allowed (after_units f (coefficient p (Escape v (tip_at tips v).class (v ∷ []))) m) (coefficient p (Escape v (tip_at tips v).class (v ∷ []))) v (tip_at tips v).class
escape_stuck p allowed f s tips v m ok filled at all form met low =
    let t = tip_at tips v in
    let tip = all.each v form.area in
    let c = coefficient p (Escape v t.class (v ∷ [])) in
    let push = escape_push p v t.class ok form in
    let free = escape_free p allowed f s tips v m ok filled at all form.area met in
    elim met.met [
      | inl e ↦ gap_stuck p allowed f c s v t m at form.area tip push e
      | inr way ↦
          (let is : IsWayTo p v (way_to p way.0) (2 * length p.links) way.0 = (way.1, way.2, refl) in
          drop_stuck p allowed f c s tips v t.class (way_to p way.0) m filled at all push free low (way_below p way.0 ok way.1) (way_apart p v (way_to p way.0) way.0 ok is) (escape_way_one p v t.class (way_to p way.0) way.0 ok is) way.3)
    ]

-- ---- rows that give nothing

no_units : (f c : Place → ℤ) (m : ℤ) → m ≡ pos 0 → after_units f c m ≡ f
no_units f c m e = fun_ext (λ at. none (f at) (c at))
  where
    none : (x y : ℤ) → x -ℤ m *ℤ y ≡ x
    none x y = rw e (omega (arith, ints))

not_so_many : {P : Type 0} → pos 0 ≡ pos (2 ^ 111) → P
not_so_many h = absurd (omega (arith, ints))

-- where no unit of a row of the class of the tip may be taken, the row gives nothing
pub none_stuck : (p : Problem) (allowed : Allowed) (f c : Place → ℤ) (v k : ℕ) (m : ℤ) → m ≡ pos 0 → ((m ≡ pos (2 ^ 111)) ⊎ IsStuck p allowed (after_units f c m) c v k) → IsStuck p allowed f c v k
none_stuck p allowed f c v k m e why =
    elim why [
      | inl most ↦ not_so_many (sym e ∙ most)
      | inr stuck ↦ subst (λ (g : Place → ℤ). IsStuck p allowed g c v k) (no_units f c m e) stuck
    ]

-- a row of another class gives nothing
pub other_stuck : (p : Problem) (allowed : Allowed) (f c : Place → ℤ) (s : Numbers) (v k : ℕ) (t : Tip) → IsAt p f s → v < areas p → k < p.classes → IsTip (allowed v) (number p s v) p.classes t → k ≢ t.class → IsStuck p allowed f c v k
other_stuck p allowed f c s v k t at h q tip ne =
    by_test (allowed v k) _
    (λ e.
    let low = tip_lowest (allowed v) (number p s v) p.classes t k tip q e in
    let here = number_is p f s v t.class at h tip.class in
    let is = number_is p f s v k at h q in
    Tied t.class tip.class tip.is_open (λ x. ne (sym x)) (omega (arith, ints)))
    (λ e. Shut e)

pub stuck_vain : (p : Problem) (allowed : Allowed) (s : RowSum) (row : Row) (v k : ℕ) → IsFilled p allowed → IsPush p (coefficient p row) v k → IsStuck p allowed (left_at p s) (coefficient p row) v k → IsVain p allowed s row
stuck_vain p allowed s row v k filled push stuck =
    let more = total_more p allowed s row (pos 1) in
    let less = stuck_total p allowed (left_at p s) (coefficient p row) v k filled push stuck in
    omega (arith, ints)

-- one unit more after m units
unit_more : (f c : Place → ℤ) (m : ℤ) → after_units f c (m +ℤ pos 1) ≡ after_units (after_units f c m) c (pos 1)
unit_more f c m = fun_ext (λ at. one (f at) (c at))
  where
    one : (x y : ℤ) → x -ℤ (m +ℤ pos 1) *ℤ y ≡ x -ℤ m *ℤ y -ℤ pos 1 *ℤ y
    one x y =
        let turned = *ℤ_comm (m +ℤ pos 1) y in
        let spread = *ℤ-+ℤ y m (pos 1) in
        let back = *ℤ_comm y m in
        omega (arith, ints)

pub stuck_more : (p : Problem) (allowed : Allowed) (s : RowSum) (row : Row) (v k : ℕ) (m : ℤ) → IsFilled p allowed → IsPush p (coefficient p row) v k → IsStuck p allowed (after_units (left_at p s) (coefficient p row) m) (coefficient p row) v k → total p allowed (with_row s row (m +ℤ pos 1)) ≤ℤ total p allowed (with_row s row m)
stuck_more p allowed s row v k m filled push stuck =
    let c = coefficient p row in
    let f = left_at p s in
    let next = total_more p allowed s row (m +ℤ pos 1) in
    let now = total_more p allowed s row m in
    let same = ap (total_of p allowed) (unit_more f c m) in
    let less = stuck_total p allowed (after_units f c m) c v k filled push stuck in
    omega (arith, ints)
