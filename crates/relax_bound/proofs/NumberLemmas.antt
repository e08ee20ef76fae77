-- One number changes, and the tip of its area with it.
use Rattle.std.proofs.Common.{◌≡◌, ◌≢◌, ℕ, ◌+◌, ◌*◌, ◌<◌, Bool, true, false, List, [], ◌∷◌, length, set, refl, ap, sym, ◌∙◌, arith, subst, ◌⊎◌, inl, inr, get_or-set_same, get_or-set_other, length-set}
use Rattle.std.specs.Prelude.{ℤ, pos, negsuc, neg_ℤ, ◌+ℤ◌, ◌-ℤ◌, ◌*ℤ◌, ◌==◌, ◌&&◌}
use Rattle.std.proofs.lemmas.Int.{ints}
use Rattle.whole_ring.specs.Sums.{when}
use Rattle.whole_ring.proofs.Laws.{*ℤ-+ℤ}
use Rattle.agg_model.specs.Problem.{Problem, IsProblem, areas}
use Rattle.row_laws.specs.declared.row.Row.TheVariants.{Border, Escape}
use Rattle.row_laws.specs.Rows.{Place, Choice, Across, is_same_place, near_end, far_end}
use Rattle.row_laws.specs.Values.{Allowed, amount_at}
use Rattle.row_laws.specs.Exact.{lower}
use Rattle.row_laws.proofs.Tests.{by_test}
use Rattle.bound_rows.specs.Scratch.{Numbers, HasRoom, IsAt}
use Rattle.bound_rows.proofs.LoweringLemmas.{choice_lowered, link_lowered}
use Rattle.relax_bound.specs.declared.tips.Tip.{Tip}
use Rattle.relax_bound.specs.Levels.{coefficient, after_units, number, link_number, value_at, lowered_choice, lowered_link, IsTip, AreTips, tip_at}
use Rattle.relax_bound.specs.Leads.{beside, choices_of}
use Rattle.relax_bound.proofs.TipLemmas.{tip_same}
use Rattle.relax_bound.proofs.PushLemmas.{is_eqb, not_eqb, of_eqb, of_not, border_choice, border_link, escape_is}

-- ---- numbers

pub at_value : (p : Problem) (s : Numbers) → HasRoom p s → IsAt p (value_at p s) s
at_value p s room = record { choice_count = room.0; link_count = room.1; choices = λ v k _ _. refl; links = λ l _. refl }

pub room_of : (p : Problem) (f : Place → ℤ) (s : Numbers) → IsAt p f s → HasRoom p s
room_of p f s at = (at.choice_count, at.link_count)

pub at_same : (p : Problem) (f g : Place → ℤ) (s : Numbers) → IsAt p f s → ((v k : ℕ) → v < areas p → k < p.classes → f (Choice v k) ≡ g (Choice v k)) → ((l : ℕ) → l < length p.links → f (Across l) ≡ g (Across l)) → IsAt p g s
at_same p f g s at choices links = record {
  choice_count = at.choice_count;
  link_count = at.link_count;
  choices = λ v k h q. at.choices v k h q ∙ choices v k h q;
  links = λ l h. at.links l h ∙ links l h;
}

pub lowered_at : (p : Problem) (f : Place → ℤ) (s : Numbers) (v k : ℕ) (x : ℤ) → IsAt p f s → v < areas p → k < p.classes → IsAt p (lower f (Choice v k) x) (lowered_choice p s v k x)
lowered_at p f s v k x at h q = choice_lowered p f s v k x (number p s v k -ℤ x) q h (ap (λ y. y -ℤ x) (at.choices v k h q)) at

pub link_lowered_at : (p : Problem) (f : Place → ℤ) (s : Numbers) (l : ℕ) (x : ℤ) → IsAt p f s → l < length p.links → IsAt p (lower f (Across l) x) (lowered_link s l x)
link_lowered_at p f s l x at h = link_lowered p f s l x (link_number s l -ℤ x) h (ap (λ y. y -ℤ x) (at.links l h)) at

pub lower_is : (f : Place → ℤ) (place : Place) (x : ℤ) (at : Place) → lower f place x at ≡ f at -ℤ when (is_same_place place at) x
lower_is f place x at =
    by_test (is_same_place place at) _ (λ e. rw e refl) (λ e. rw e (omega (arith, ints)))

pub lowered_here : (p : Problem) (s : Numbers) (v k : ℕ) (x : ℤ) → HasRoom p s → v < areas p → k < p.classes → number p (lowered_choice p s v k x) v k ≡ number p s v k -ℤ x
lowered_here p s v k x room h q =
    (lowered_at p (value_at p s) s v k x (at_value p s room) h q).choices v k h q ∙ rw (is_eqb v v refl, is_eqb k k refl) refl

pub lowered_other : (p : Problem) (s : Numbers) (v k u j : ℕ) (x : ℤ) → HasRoom p s → v < areas p → k < p.classes → u < areas p → j < p.classes → ((u ≢ v) ⊎ (j ≢ k)) → number p (lowered_choice p s v k x) u j ≡ number p s u j
lowered_other p s v k u j x room h q hu hj ne =
    (lowered_at p (value_at p s) s v k x (at_value p s room) h q).choices u j hu hj ∙ other ne
  where
    other : ((u ≢ v) ⊎ (j ≢ k)) → lower (value_at p s) (Choice v k) x (Choice u j) ≡ number p s u j
    other (inl a) = rw (not_eqb v u (λ e. a (sym e))) refl
    other (inr a) = by_test (v == u) _ (λ e. rw (e, not_eqb k j (λ e'. a (sym e'))) refl) (λ e. rw e refl)

pub lowered_room : (p : Problem) (s : Numbers) (v k : ℕ) (x : ℤ) → HasRoom p s → HasRoom p (lowered_choice p s v k x)
lowered_room p s v k x room = (length-set s.choices (v * p.classes + k) (number p s v k -ℤ x) ∙ room.0, room.1)

pub link_lowered_room : (p : Problem) (s : Numbers) (l : ℕ) (x : ℤ) → HasRoom p s → HasRoom p (lowered_link s l x)
link_lowered_room p s l x room = (room.0, length-set s.links l (link_number s l -ℤ x) ∙ room.1)

-- ---- tips

-- tips where those of one area, and its numbers, changed
pub tips_one : (p : Problem) (allowed : Allowed) (s s' : Numbers) (tips : List Tip) (v : ℕ) (t : Tip) → AreTips p allowed s tips → v < areas p → ((u j : ℕ) → u < areas p → j < p.classes → u ≢ v → number p s' u j ≡ number p s u j) → IsTip (allowed v) (number p s' v) p.classes t → AreTips p allowed s' (set tips v t)
tips_one p allowed s s' tips v t all h same tip = record {
  count = length-set tips v t ∙ all.count;
  each = λ u hu. by_test (u == v) _
      (λ e.
      let is : u ≡ v = of_eqb u v e in
      let lt : v < length tips = (let n = all.count in omega arith) in
      let here : tip_at (set tips v t) v ≡ t = rw get_or-set_same refl in
      subst (λ (x : ℕ). IsTip (allowed x) (number p s' x) p.classes (tip_at (set tips v t) x)) (sym is) (rw here tip))
      (λ e.
      let ne : u ≢ v = of_not u v e in
      let there : tip_at (set tips v t) u ≡ tip_at tips u = rw get_or-set_other refl in
      rw there (tip_same (allowed u) (number p s u) (number p s' u) p.classes (tip_at tips u) (λ j hj. same u j hu hj ne) (all.each u hu)));
}

-- the same tips where no number changed
pub tips_same : (p : Problem) (allowed : Allowed) (s s' : Numbers) (tips : List Tip) → AreTips p allowed s tips → ((u j : ℕ) → u < areas p → j < p.classes → number p s' u j ≡ number p s u j) → AreTips p allowed s' tips
tips_same p allowed s s' tips all same = record {
  count = all.count;
  each = λ u hu. tip_same (allowed u) (number p s u) (number p s' u) p.classes (tip_at tips u) (λ j hj. same u j hu hj) (all.each u hu);
}

-- ---- a border row

three_units : (x m : ℤ) (a b : Bool) → x -ℤ pos 0 -ℤ when a (neg_ℤ m) -ℤ when b m ≡ x -ℤ m *ℤ (when a (negsuc 0) +ℤ when b (pos 1))
three_units x m true true = omega (arith, ints)
three_units x m true false = omega (arith, ints)
three_units x m false true = omega (arith, ints)
three_units x m false false = omega (arith, ints)

link_units : (x m : ℤ) (a : Bool) → x -ℤ when a m -ℤ pos 0 -ℤ pos 0 ≡ x -ℤ m *ℤ when a (pos 1)
link_units x m true = omega (arith, ints)
link_units x m false = omega (arith, ints)

-- the three numbers of a border row, one after another
pub border_numbers : (p : Problem) (s : Numbers) (l side k : ℕ) (m : ℤ) → HasRoom p s → l < length p.links → near_end p l side < areas p → far_end p l side < areas p → k < p.classes → IsAt p (after_units (value_at p s) (coefficient p (Border l side k)) m) (lowered_choice p (lowered_choice p (lowered_link s l m) (near_end p l side) k (neg_ℤ m)) (far_end p l side) k m)
border_numbers p s l side k m room h nb fb hk =
    let near = near_end p l side in
    let far = far_end p l side in
    let f0 = value_at p s in
    let f1 = lower f0 (Across l) m in
    let f2 = lower f1 (Choice near k) (neg_ℤ m) in
    let at1 = link_lowered_at p f0 s l m (at_value p s room) h in
    let at2 = lowered_at p f1 (lowered_link s l m) near k (neg_ℤ m) at1 nb hk in
    let at3 = lowered_at p f2 (lowered_choice p (lowered_link s l m) near k (neg_ℤ m)) far k m at2 fb hk in
    at_same p (lower f2 (Choice far k) m) (after_units f0 (coefficient p (Border l side k)) m) _ at3
    (λ u j hu hj.
    let last = lower_is f2 (Choice far k) m (Choice u j) in
    let next = lower_is f1 (Choice near k) (neg_ℤ m) (Choice u j) in
    let first = lower_is f0 (Across l) m (Choice u j) in
    let units = three_units (f0 (Choice u j)) m (near == u && k == j) (far == u && k == j) in
    let c = ap (λ (x : ℤ). f0 (Choice u j) -ℤ m *ℤ x) (border_choice p l side k u j) in
    last ∙ (ap (λ (x : ℤ). x -ℤ when (far == u && k == j) m) (next ∙ ap (λ (x : ℤ). x -ℤ when (near == u && k == j) (neg_ℤ m)) first) ∙ (units ∙ sym c)))
    (λ i hi.
    let last = lower_is f2 (Choice far k) m (Across i) in
    let next = lower_is f1 (Choice near k) (neg_ℤ m) (Across i) in
    let first = lower_is f0 (Across l) m (Across i) in
    let units = link_units (f0 (Across i)) m (l == i) in
    let c = ap (λ (x : ℤ). f0 (Across i) -ℤ m *ℤ x) (border_link p l side k i) in
    last ∙ (ap (λ (x : ℤ). x -ℤ pos 0) (next ∙ ap (λ (x : ℤ). x -ℤ pos 0) first) ∙ (units ∙ sym c)))

-- ---- an escape row of an area alone

when-scale : (b : Bool) (m x : ℤ) → when b (m *ℤ x) ≡ m *ℤ when b x
when-scale true m x = refl
when-scale false m x = omega (arith, ints)

pub units_of : (k : ℕ) (m : ℤ) (us : List ℕ) (at : Place) → amount_at (choices_of k m us) at ≡ m *ℤ amount_at (choices_of k (pos 1) us) at
units_of k m [] at = omega (arith, ints)
units_of k m (u ∷ us) at =
    let here = when-scale (is_same_place (Choice u k) at) m (pos 1) in
    let whole : m *ℤ pos 1 ≡ m = omega (arith, ints) in
    let rest = units_of k m us at in
    let spread = *ℤ-+ℤ m (when (is_same_place (Choice u k) at) (pos 1)) (amount_at (choices_of k (pos 1) us) at) in
    let one : when (is_same_place (Choice u k) at) m ≡ m *ℤ when (is_same_place (Choice u k) at) (pos 1) = ap (when (is_same_place (Choice u k) at)) (sym whole) ∙ here in
    rw (one, rest) (sym spread)

raised_by : (x m y z a : ℤ) → z ≡ m *ℤ y → (w : ℤ) → w ≡ m *ℤ a → x -ℤ w -ℤ z ≡ x -ℤ m *ℤ ((a +ℤ pos 0) +ℤ y)
raised_by x m y z a e w f =
    let spread = *ℤ-+ℤ m (a +ℤ pos 0) y in
    let plain : m *ℤ (a +ℤ pos 0) ≡ m *ℤ a = ap (λ (t : ℤ). m *ℤ t) (let q : a +ℤ pos 0 ≡ a = omega (arith, ints) in q) in
    omega (arith, ints)

one_raised : (x m y z : ℤ) (a : Bool) → z ≡ m *ℤ y → x -ℤ when a (neg_ℤ m) -ℤ z ≡ x -ℤ m *ℤ ((when a (negsuc 0) +ℤ pos 0) +ℤ y)
one_raised x m y z true e = raised_by x m y z (negsuc 0) e (neg_ℤ m) (omega (arith, ints))
one_raised x m y z false e = raised_by x m y z (pos 0) e (pos 0) (omega (arith, ints))

-- the number that an escape row raises, and then those that it lowers
pub escape_numbers : (p : Problem) (s t : Numbers) (v k : ℕ) (m : ℤ) → IsProblem p → HasRoom p s → v < areas p → k < p.classes → IsAt p (λ at. value_at p (lowered_choice p s v k (neg_ℤ m)) at -ℤ amount_at (choices_of k m (beside p v (2 * length p.links))) at) t → IsAt p (after_units (value_at p s) (coefficient p (Escape v k (v ∷ []))) m) t
escape_numbers p s t v k m ok room h hk at =
    let f0 = value_at p s in
    let raised = lowered_at p f0 s v k (neg_ℤ m) (at_value p s room) h hk in
    let us = beside p v (2 * length p.links) in
    at_same p _ (after_units f0 (coefficient p (Escape v k (v ∷ []))) m) t at
    (λ u j hu hj.
    let now = raised.choices u j hu hj ∙ lower_is f0 (Choice v k) (neg_ℤ m) (Choice u j) in
    let units = one_raised (f0 (Choice u j)) m (amount_at (choices_of k (pos 1) us) (Choice u j)) _ (v == u && k == j) (units_of k m us (Choice u j)) in
    let c = ap (λ (x : ℤ). f0 (Choice u j) -ℤ m *ℤ x) (escape_is p v k (Choice u j) ok) in
    ap (λ (x : ℤ). x -ℤ amount_at (choices_of k m us) (Choice u j)) now ∙ (units ∙ sym c))
    (λ l hl.
    let now = raised.links l hl ∙ lower_is f0 (Choice v k) (neg_ℤ m) (Across l) in
    let units = one_raised (f0 (Across l)) m (amount_at (choices_of k (pos 1) us) (Across l)) _ false (units_of k m us (Across l)) in
    let c = ap (λ (x : ℤ). f0 (Across l) -ℤ m *ℤ x) (escape_is p v k (Across l) ok) in
    ap (λ (x : ℤ). x -ℤ amount_at (choices_of k m us) (Across l)) now ∙ (units ∙ sym c))
