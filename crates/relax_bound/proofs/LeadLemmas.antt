-- A walk along the leads of an area meets each way from it, the last one first.
use Rattle.std.proofs.Common.{◌≡◌, ◌≢◌, ℕ, zero, suc, ◌-◌, ◌*◌, ◌<◌, ◌≤◌, Bool, true, false, List, ◌∷◌, length, refl, ap, sym, ◌∙◌, arith, subst, inl, inr}
use Rattle.std.specs.Prelude.{ℤ, pos, ◌+ℤ◌, ◌*ℤ◌, ◌≤ℤ◌, ◌==◌, ◌&&◌}
use Rattle.std.specs.Int.{int_min}
use Rattle.std.proofs.lemmas.Int.{ints, clamps}
use Rattle.std.proofs.lemmas.Bool.{cases_lt}
use Rattle.whole_ring.specs.Sums.{when}
use Rattle.whole_ring.proofs.Signs.{nonneg-mul}
use Rattle.agg_model.specs.Problem.{Problem, IsProblem, areas}
use Rattle.row_laws.specs.Rows.{Place, Choice, Across, is_same_place}
use Rattle.row_laws.specs.Values.{amount_at}
use Rattle.row_laws.specs.Exact.{lower}
use Rattle.bound_rows.specs.Scratch.{Numbers, IsAt, IsLast, way_from, way_to}
use Rattle.row_laws.specs.Values.{Allowed}
use Rattle.relax_bound.specs.declared.tips.Tip.{Tip}
use Rattle.relax_bound.specs.Levels.{lowered_choice, tip_at, drop_at, IsMetFrom}
use Rattle.relax_bound.proofs.LeastLemmas.{min_is}
use Rattle.relax_bound.specs.Leads.{beside, choices_of}
use Rattle.relax_bound.proofs.PushLemmas.{IsWayTo, is_eqb, not_eqb, count_of, counted, count_least, beside_one}
use Rattle.relax_bound.proofs.NumberLemmas.{at_same, lowered_at, lower_is, units_of}

-- no way from v is among those from b to n
skipped : (p : Problem) (v b n : ℕ) → b ≤ n → ((i : ℕ) → b ≤ i → i < n → way_from p i ≢ v) → beside p v n ≡ beside p v b
skipped p v b zero h none = let is : b ≡ 0 = omega arith in ap (beside p v) (sym is)
skipped p v b (suc n) h none =
    elim (cases_lt n b) [
      | inl less ↦ (let is : b ≡ suc n = omega arith in ap (beside p v) (sym is))
      | inr more ↦ rw (not_eqb (way_from p n) v (none n more (omega arith))) (skipped p v b n more (λ i a c. none i a (omega arith)))
    ]

-- from one lead to the one before it
pub beside_lead : (p : Problem) (v lead before : ℕ) → lead ≢ 0 → way_from p (lead - 1) ≡ v → IsLast p (way_from p (lead - 1)) (lead - 1) before → beside p v lead ≡ way_to p (lead - 1) ∷ beside p v before
beside_lead p v lead before some from last =
    let h = lead - 1 in
    let is : lead ≡ suc h = omega arith in
    let here : beside p v (suc h) ≡ way_to p h ∷ beside p v h = rw (is_eqb (way_from p h) v from) refl in
    let rest = skipped p v before h last.most (λ i a c e. last.none i a c (e ∙ sym from)) in
    ap (beside p v) is ∙ (here ∙ ap (λ us. way_to p h ∷ us) rest)

-- a lead to the last of all ways
pub beside_last : (p : Problem) (v n lead : ℕ) → IsLast p v n lead → beside p v n ≡ beside p v lead
beside_last p v n lead last = skipped p v lead n last.most last.none

-- ---- amounts

amount_is : (k u : ℕ) (m : ℤ) (us : List ℕ) → amount_at (choices_of k m us) (Choice u k) ≡ m *ℤ count_of us u
amount_is k u m us =
    let units = units_of k m us (Choice u k) in
    let count = counted k k u us in
    let same : when (k == k) (count_of us u) ≡ count_of us u = rw (is_eqb k k refl) refl in
    units ∙ ap (λ (x : ℤ). m *ℤ x) (count ∙ same)

pub amount_least : (k u : ℕ) (m : ℤ) (us : List ℕ) → pos 0 ≤ℤ m → pos 0 ≤ℤ amount_at (choices_of k m us) (Choice u k)
amount_least k u m us h =
    let is = amount_is k u m us in
    let product = nonneg-mul m (count_of us u) h (count_least us u) in
    omega (arith, ints)

-- each area beside v is lowered once
pub amount_once : (p : Problem) (v k u h : ℕ) (m : ℤ) → IsProblem p → IsWayTo p v u (2 * length p.links) h → amount_at (choices_of k m (beside p v (2 * length p.links))) (Choice u k) ≡ m
amount_once p v k u h m ok way =
    let is = amount_is k u m (beside p v (2 * length p.links)) in
    let one = beside_one p v u (2 * length p.links) h ok (omega arith) way in
    is ∙ (ap (λ (x : ℤ). m *ℤ x) one ∙ whole m)
  where
    whole : (x : ℤ) → x *ℤ pos 1 ≡ x
    whole x = omega (arith, ints)

-- the head of a list takes its part
pub amount_head : (k u w : ℕ) (m : ℤ) (us : List ℕ) → amount_at (choices_of k m (w ∷ us)) (Choice u k) ≡ when (w == u) m +ℤ amount_at (choices_of k m us) (Choice u k)
amount_head k u w m us = ap (λ (b : Bool). when b m +ℤ amount_at (choices_of k m us) (Choice u k)) (both (w == u) (k == k) (is_eqb k k refl))
  where
    both : (a b : Bool) → b ≡ true → a && b ≡ a
    both true b e = e
    both false b e = refl

-- one step of the walk
pub lean_numbers : (p : Problem) (f : Place → ℤ) (s : Numbers) (v k lead before : ℕ) (m : ℤ) → lead ≢ 0 → way_from p (lead - 1) ≡ v → IsLast p (way_from p (lead - 1)) (lead - 1) before → way_to p (lead - 1) < areas p → k < p.classes → IsAt p (λ at. f at +ℤ amount_at (choices_of k m (beside p v lead)) at) s → IsAt p (λ at. f at +ℤ amount_at (choices_of k m (beside p v before)) at) (lowered_choice p s (way_to p (lead - 1)) k m)
lean_numbers p f s v k lead before m some from last below class at =
    let w = way_to p (lead - 1) in
    let list = beside_lead p v lead before some from last in
    let g = λ (at : Place). f at +ℤ amount_at (choices_of k m (beside p v lead)) at in
    at_same p (lower g (Choice w k) m) (λ at. f at +ℤ amount_at (choices_of k m (beside p v before)) at) _ (lowered_at p g s w k m at below class)
    (λ u j hu hj. step g (Choice u j) (ap (λ us. amount_at (choices_of k m us) (Choice u j)) list))
    (λ l hl. step g (Across l) (ap (λ us. amount_at (choices_of k m us) (Across l)) list))
  where
    step : (g : Place → ℤ) (at : Place) → amount_at (choices_of k m (beside p v lead)) at ≡ when (is_same_place (Choice (way_to p (lead - 1)) k) at) m +ℤ amount_at (choices_of k m (beside p v before)) at → lower (λ at'. f at' +ℤ amount_at (choices_of k m (beside p v lead)) at') (Choice (way_to p (lead - 1)) k) m at ≡ f at +ℤ amount_at (choices_of k m (beside p v before)) at
    step g at e =
        let is = lower_is (λ at'. f at' +ℤ amount_at (choices_of k m (beside p v lead)) at') (Choice (way_to p (lead - 1)) k) m at in
        omega (arith, ints)

-- ---- the least drop

pub met_next : (p : Problem) (allowed : Allowed) (s : Numbers) (tips : List Tip) (v lead before : ℕ) (u d : ℤ) → IsMetFrom p allowed s tips v lead u → lead ≢ 0 → lead ≤ 2 * length p.links → way_from p (lead - 1) ≡ v → IsLast p (way_from p (lead - 1)) (lead - 1) before → pos 0 ≤ℤ d → d ≡ drop_at p allowed s tips (way_to p (lead - 1)) (tip_at tips v).class → IsMetFrom p allowed s tips v before (int_min u d)
met_next p allowed s tips v lead before u d met some most from last low is =
    let gap = met.gap in
    let ulow = met.low in
    record {
      low = omega (arith, ints, clamps);
      gap = omega (arith, ints, clamps);
      drops = λ h a b e. elim (cases_lt h lead) [
        | inl less ↦ elim (cases_lt h (lead - 1)) [
          | inl early ↦ absurd (last.none h a early (e ∙ sym from))
          | inr late ↦
              (let here : h ≡ lead - 1 = omega arith in
              let same = is ∙ ap (λ i. drop_at p allowed s tips (way_to p i) (tip_at tips v).class) (sym here) in
              subst (λ (x : ℤ). int_min u d ≤ℤ x) same (omega (arith, ints, clamps)))
        ]
        | inr more ↦ under u d _ (met.drops h more b e)
      ];
      met = elim (min_is u d) [
        | inl x ↦ elim met.met [
          | inl y ↦ inl (x.0 ∙ y)
          | inr y ↦ inr (y.0, y.1, y.2, x.0 ∙ y.3)
        ]
        | inr x ↦ inr (lead - 1, omega arith, from, x.0 ∙ is)
      ];
    }
  where
    under : (a b x : ℤ) → a ≤ℤ x → int_min a b ≤ℤ x
    under a b x h = omega (arith, ints, clamps)
