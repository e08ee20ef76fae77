-- A climb that takes one row more.
use Rattle.std.proofs.Common.{◌≡◌, ℕ, ◌+◌, ◌*◌, ◌^◌, ◌<◌, ◌≤◌, List, [], ◌∷◌, ◌++◌, length, refl, ap, sym, ◌∙◌, arith, subst, ◌⊎◌, inl, inr}
use Rattle.std.specs.Prelude.{ℤ, pos, neg_ℤ, ◌+ℤ◌, ◌-ℤ◌, ◌*ℤ◌, ◌≤ℤ◌, ◌<ℤ◌, ◌==◌}
use Rattle.std.specs.Int.{int_min}
use Rattle.std.proofs.lemmas.Int.{ints, clamps, by_lt_z}
use Rattle.std.proofs.lemmas.Bool.{cases_lt}
use Rattle.whole_ring.proofs.Sums.{sum_below-nonnegative}
use Rattle.agg_model.specs.Problem.{Problem, areas}
use Rattle.row_laws.specs.declared.row.Row.{Row}
use Rattle.row_laws.specs.declared.row.Row.TheVariants.{Border, Escape}
use Rattle.row_laws.specs.Rows.{Place, Choice, Across, near_end, far_end, entries, IsEscape}
use Rattle.row_laws.specs.Values.{RowSum, Allowed, left_at, area_term, total, mark_count, row_marks, scale}
use Rattle.row_laws.proofs.Tests.{by_test}
use Rattle.bound_rows.specs.Domains.{allows, IsFor}
use Rattle.bound_rows.specs.Scratch.{Numbers, IsAt}
use Rattle.relax_bound.specs.declared.climb.Climb.{Climb}
use Rattle.relax_bound.specs.declared.leads.Leads.{Leads}
use Rattle.relax_bound.specs.Ascents.{IsShort, with_row, IsTaken, IsClimb, IsFull, IsVain}
use Rattle.relax_bound.specs.Levels.{coefficient, after_units, IsPush, IsFree, IsFilled, IsStuck, IsLevel, AreTips, tip_at, numbers_of, number, value_at, IsLeastOfThree, IsMet}
use Rattle.relax_bound.specs.Leads.{AreLeads}
use Rattle.relax_bound.specs.Climbs.{sum_of, IsState, AreVainSides, AreVainAlone}
use Rattle.relax_bound.proofs.SumLemmas.{left_more}
use Rattle.relax_bound.proofs.PushLemmas.{border_push, escape_push, near_below, far_below, of_eqb, of_not}
use Rattle.relax_bound.proofs.LevelLemmas.{small_fits, IsRunOf, border_run, escape_run, level_next, level_value, areas_total}
use Rattle.relax_bound.proofs.ClimbLemmas.{climb_next, marks_more}
use Rattle.relax_bound.proofs.UnitLemmas.{three_most, border_free, border_stuck, escape_free, escape_stuck, none_stuck, other_stuck, stuck_vain, stuck_more}

-- domains that are for a problem leave each area a class
pub filled_for : (p : Problem) (sets : List ℕ) → IsFor p sets → IsFilled p (allows sets)
filled_for p sets h = λ v q. (let some = h.filled v q in (some.0, h.below v some.0 q some.1, some.1))

pub total_least : (p : Problem) (allowed : Allowed) (s : RowSum) → IsLevel p allowed s → pos 0 ≤ℤ total p allowed s
total_least p allowed s level =
    let is = areas_total p allowed s level.links in
    let low = sum_below-nonnegative (areas p) (area_term p allowed s) level.terms in
    omega (arith, ints)

-- a sum that is not full has room for a row
pub record HasPlace (p : Problem) (allowed : Allowed) (share : ℕ) (s : RowSum) : Type 0 where
  pub rows : length s.rows < 16 * areas p
  pub marks : mark_count s.rows + 9 ≤ share
  pub total : total p allowed s <ℤ pos (2 ^ 110)

pub has_place : (p : Problem) (allowed : Allowed) (share : ℕ) (s : RowSum) → IsClimb p allowed share s → (IsFull p allowed share s → ⊥) → HasPlace p allowed share s
has_place p allowed share s climb full = record {
  rows = elim (cases_lt (length s.rows) (16 * areas p)) [
    | inl less ↦ less
    | inr more ↦ (let few = climb.few in absurd (full (inl (omega arith))))
  ];
  marks = elim (cases_lt share (mark_count s.rows + 9)) [
    | inl less ↦ absurd (full (inr (inl less)))
    | inr more ↦ more
  ];
  total = by_lt_z (total p allowed s) (pos (2 ^ 110)) (λ h. h) (λ h. absurd (full (inr (inr h))));
}

at_next : (p : Problem) (f g c : Place → ℤ) (s t : Numbers) (m : ℤ) → IsAt p f s → IsAt p (after_units (value_at p s) c m) t → ((at : Place) → g at ≡ after_units f c m at) → IsAt p g t
at_next p f g c s t m old new is = record {
  choice_count = new.choice_count;
  link_count = new.link_count;
  choices = λ v k hv hk. new.choices v k hv hk ∙ (ap (λ x. x -ℤ m *ℤ c (Choice v k)) (old.choices v k hv hk) ∙ sym (is (Choice v k)));
  links = λ l hl. new.links l hl ∙ (ap (λ x. x -ℤ m *ℤ c (Across l)) (old.links l hl) ∙ sym (is (Across l)));
}

-- what the code did to the state
pub record IsAdded (p : Problem) (allowed : Allowed) (old new : Climb) (row : Row) (m : ℤ) : Type 0 where
  pub leads : new.leads ≡ old.leads
  pub rows : new.rows.items ≡ old.rows.items ++ (row, m) ∷ []
  pub total : new.total ≡ old.total +ℤ m
  pub marks : new.marks ≡ old.marks + row_marks row
  pub numbers : IsAt p (after_units (value_at p (numbers_of old.levels.left)) (coefficient p row) m) (numbers_of new.levels.left)
  pub tips : AreTips p allowed (numbers_of new.levels.left) new.levels.tips.items

next_state : (p : Problem) (allowed : Allowed) (share : ℕ) (old new : Climb) (row : Row) (v k : ℕ) (m : ℤ) → IsState p allowed share old → HasPlace p allowed share (sum_of old.rows.items) → IsShort p row → row_marks row ≤ 9 → IsPush p (coefficient p row) v k → IsFree p allowed (left_at p (sum_of old.rows.items)) (coefficient p row) v k m → pos 1 ≤ℤ m → m ≤ℤ pos (2 ^ 111) → ((m ≡ pos (2 ^ 111)) ⊎ IsStuck p allowed (after_units (left_at p (sum_of old.rows.items)) (coefficient p row) m) (coefficient p row) v k) → IsRunOf (left_at p (sum_of old.rows.items)) (scale m (entries p row)) → IsAdded p allowed old new row m → IsState p allowed share new
next_state p allowed share old new row v k m state place short marks push free some most stuck runs added =
    let s = sum_of old.rows.items in
    let t = with_row s row m in
    let below = place.total in
    let next = level_next p allowed s row v k m state.filled state.level push free (omega (arith, ints)) (omega (arith, ints)) runs in
    let more = next.1 in
    let taken : IsTaken p allowed s row m = record {
      short = short;
      least = some;
      most = most;
      greater = omega (arith, ints);
      whole = elim stuck [ inl e ↦ inl e | inr h ↦ inr (stuck_more p allowed s row v k m state.filled push h) ];
    } in
    let light = place.marks in
    let climbs : IsClimb p allowed share t = climb_next p allowed share s row m state.climbs taken (level_value p allowed t refl next.0) place.rows (omega arith) in
    let at : IsAt p (left_at p t) (numbers_of new.levels.left) = at_next p (left_at p s) (left_at p t) (coefficient p row) (numbers_of old.levels.left) (numbers_of new.levels.left) m state.numbers added.numbers (left_more p s row m) in
    record {
      rules = state.rules;
      filled = state.filled;
      climbs = subst (λ (rows : List (Row × ℤ)). IsClimb p allowed share (sum_of rows)) (sym added.rows) climbs;
      level = subst (λ (rows : List (Row × ℤ)). IsLevel p allowed (sum_of rows)) (sym added.rows) next.0;
      numbers = subst (λ (rows : List (Row × ℤ)). IsAt p (left_at p (sum_of rows)) (numbers_of new.levels.left)) (sym added.rows) at;
      tips = added.tips;
      leads = subst (λ (x : Leads). AreLeads p x) (sym added.leads) state.leads;
      total = added.total ∙ (ap (λ x. x +ℤ m) state.total ∙ (sym more ∙ ap (λ (rows : List (Row × ℤ)). total p allowed (sum_of rows)) (sym added.rows)));
      marks = added.marks ∙ (ap (λ x. x + row_marks row) state.marks ∙ (sym (marks_more old.rows.items row m) ∙ ap mark_count (sym added.rows)));
    }

-- a border row more
pub border_state : (p : Problem) (allowed : Allowed) (share : ℕ) (old new : Climb) (l side : ℕ) (m : ℤ) → IsState p allowed share old → (IsFull p allowed share (sum_of old.rows.items) → ⊥) → l < length p.links → side ≤ 1 → IsLeastOfThree p allowed (numbers_of old.levels.left) old.levels.tips.items l side m → pos 1 ≤ℤ m → IsAdded p allowed old new (Border l side (tip_at old.levels.tips.items (near_end p l side)).class) m → IsState p allowed share new
border_state p allowed share old new l side m state full h two three some added =
    let s = sum_of old.rows.items in
    let f = left_at p s in
    let near = near_end p l side in
    let far = far_end p l side in
    let t = tip_at old.levels.tips.items near in
    let place = has_place p allowed share s state.climbs full in
    let low : pos 0 ≤ℤ m = omega (arith, ints) in
    let nb = near_below p l side state.rules h in
    let fb = far_below p l side state.rules h in
    let tip = state.tips.each near nb in
    let push = border_push p l side t.class state.rules (h, two, tip.class) in
    let free = border_free p allowed f (numbers_of old.levels.left) old.levels.tips.items l side m state.rules state.filled state.numbers state.tips h three in
    let stuck = border_stuck p allowed f (numbers_of old.levels.left) old.levels.tips.items l side m state.rules state.filled state.numbers state.tips h two three low in
    let gap = tip.gap.high in
    let most : m ≤ℤ pos (2 ^ 111) = least_most t.gap _ _ three.is gap in
    let total' = place.total in
    let ln = state.level.low near t.class nb tip.class in
    let hn = state.level.high near t.class nb tip.class in
    let lf = state.level.low far t.class fb tip.class in
    let hf = state.level.high far t.class fb tip.class in
    let ll = state.level.links l h in
    let hl = state.level.links_most l h in
    let runs = border_run p f l side t.class m state.rules h (small_fits (f (Across l) -ℤ m) (omega (arith, ints)) (omega (arith, ints))) (small_fits (f (Choice near t.class) +ℤ m) (omega (arith, ints)) (omega (arith, ints))) (small_fits (f (Choice far t.class) -ℤ m) (omega (arith, ints)) (omega (arith, ints))) in
    next_state p allowed share old new (Border l side t.class) near t.class m state place (h, two, tip.class) (omega arith) push free some most stuck runs added
  where
    least_most : (a b c : ℤ) → m ≡ int_min (int_min a b) c → a ≤ℤ pos (2 ^ 111) → m ≤ℤ pos (2 ^ 111)
    least_most a b c e h' = omega (arith, ints, clamps)

-- an escape row of an area alone more
pub escape_state : (p : Problem) (allowed : Allowed) (share : ℕ) (old new : Climb) (v : ℕ) (m : ℤ) → IsState p allowed share old → (IsFull p allowed share (sum_of old.rows.items) → ⊥) → IsEscape p v (tip_at old.levels.tips.items v).class (v ∷ []) → IsMet p allowed (numbers_of old.levels.left) old.levels.tips.items v m → pos 1 ≤ℤ m → IsAdded p allowed old new (Escape v (tip_at old.levels.tips.items v).class (v ∷ [])) m → IsState p allowed share new
escape_state p allowed share old new v m state full form met some added =
    let s = sum_of old.rows.items in
    let f = left_at p s in
    let t = tip_at old.levels.tips.items v in
    let place = has_place p allowed share s state.climbs full in
    let low : pos 0 ≤ℤ m = omega (arith, ints) in
    let tip = state.tips.each v form.area in
    let push = escape_push p v t.class state.rules form in
    let free = escape_free p allowed f (numbers_of old.levels.left) old.levels.tips.items v m state.rules state.filled state.numbers state.tips form.area met in
    let stuck = escape_stuck p allowed f (numbers_of old.levels.left) old.levels.tips.items v m state.rules state.filled state.numbers state.tips form met low in
    let gap = tip.gap.high in
    let under = met.gap in
    let most : m ≤ℤ pos (2 ^ 111) = omega (arith, ints) in
    let total' = place.total in
    let lo = state.level.low v t.class form.area tip.class in
    let ho = state.level.high v t.class form.area tip.class in
    let runs = escape_run p f v t.class m (small_fits (f (Choice v t.class) +ℤ m) (omega (arith, ints)) (omega (arith, ints)))
    (λ u h e. (let lu = state.level.low u t.class h tip.class in let hu = state.level.high u t.class h tip.class in small_fits (f (Choice u t.class) -ℤ m) (omega (arith, ints)) (omega (arith, ints)))) in
    next_state p allowed share old new (Escape v t.class (v ∷ [])) v t.class m state place (form, refl) (omega arith) push free some most stuck runs added

-- ---- rows that give nothing

-- where the row of the class of the tip may not be taken, no border row of the link and the side gives a greater total
pub border_vain : (p : Problem) (allowed : Allowed) (share : ℕ) (c : Climb) (l side : ℕ) (m : ℤ) → IsState p allowed share c → l < length p.links → side ≤ 1 → IsLeastOfThree p allowed (numbers_of c.levels.left) c.levels.tips.items l side m → m ≡ pos 0 → AreVainSides p allowed c.rows.items l side
border_vain p allowed share c l side m state h two three none = λ k q.
    let s = sum_of c.rows.items in
    let f = left_at p s in
    let near = near_end p l side in
    let t = tip_at c.levels.tips.items near in
    let nb = near_below p l side state.rules h in
    let tip = state.tips.each near nb in
    by_test (k == t.class) _
    (λ e.
    let is : k ≡ t.class = of_eqb k t.class e in
    let push = border_push p l side t.class state.rules (h, two, tip.class) in
    let stuck = border_stuck p allowed f (numbers_of c.levels.left) c.levels.tips.items l side m state.rules state.filled state.numbers state.tips h two three (omega (arith, ints)) in
    subst (λ (x : ℕ). IsVain p allowed s (Border l side x)) (sym is) (stuck_vain p allowed s (Border l side t.class) near t.class state.filled push (none_stuck p allowed f _ near t.class m none stuck)))
    (λ e.
    let push = border_push p l side k state.rules (h, two, q) in
    stuck_vain p allowed s (Border l side k) near k state.filled push (other_stuck p allowed f (coefficient p (Border l side k)) (numbers_of c.levels.left) near k t state.numbers nb q tip (of_not k t.class e)))

-- the same for the escape rows of an area alone, where that of the class of the tip is out of form or may not be taken
pub escape_vain : (p : Problem) (allowed : Allowed) (share : ℕ) (c : Climb) (v : ℕ) → IsState p allowed share c → v < areas p → (IsEscape p v (tip_at c.levels.tips.items v).class (v ∷ []) → IsMet p allowed (numbers_of c.levels.left) c.levels.tips.items v (pos 0)) → AreVainAlone p allowed c.rows.items v
escape_vain p allowed share c v state h met = λ k form.
    let s = sum_of c.rows.items in
    let f = left_at p s in
    let t = tip_at c.levels.tips.items v in
    let tip = state.tips.each v h in
    let push = escape_push p v k state.rules form in
    by_test (k == t.class) _
    (λ e.
    let is : k ≡ t.class = of_eqb k t.class e in
    let form' : IsEscape p v t.class (v ∷ []) = subst (λ (x : ℕ). IsEscape p v x (v ∷ [])) is form in
    let push' = escape_push p v t.class state.rules form' in
    let stuck = escape_stuck p allowed f (numbers_of c.levels.left) c.levels.tips.items v (pos 0) state.rules state.filled state.numbers state.tips form' (met form') (omega (arith, ints)) in
    subst (λ (x : ℕ). IsVain p allowed s (Escape v x (v ∷ []))) (sym is) (stuck_vain p allowed s (Escape v t.class (v ∷ [])) v t.class state.filled push' (none_stuck p allowed f _ v t.class (pos 0) refl stuck)))
    (λ e. stuck_vain p allowed s (Escape v k (v ∷ [])) v k state.filled push (other_stuck p allowed f (coefficient p (Escape v k (v ∷ []))) (numbers_of c.levels.left) v k t state.numbers h form.class tip (of_not k t.class e)))

-- ---- bounds of a state

pub state_total : (p : Problem) (allowed : Allowed) (share : ℕ) (c : Climb) → IsState p allowed share c → (IsFull p allowed share (sum_of c.rows.items) → ⊥) → (pos 0 ≤ℤ c.total) × (c.total ≤ℤ pos (2 ^ 110))
state_total p allowed share c state full =
    let place = has_place p allowed share (sum_of c.rows.items) state.climbs full in
    let most = place.total in
    let least = total_least p allowed (sum_of c.rows.items) state.level in
    let is = state.total in
    (omega (arith, ints), omega (arith, ints))

pub state_high : (p : Problem) (allowed : Allowed) (share : ℕ) (c : Climb) → IsState p allowed share c → (v k : ℕ) → v < areas p → k < p.classes → number p (numbers_of c.levels.left) v k ≤ℤ pos (2 ^ 114)
state_high p allowed share c state v k h q =
    let is = state.numbers.choices v k h q in
    let high = state.level.high v k h q in
    let most = state.level.most in
    omega (arith, ints)

pub state_low : (p : Problem) (allowed : Allowed) (share : ℕ) (c : Climb) → IsState p allowed share c → (v k : ℕ) → v < areas p → k < p.classes → neg_ℤ (pos (2 ^ 114)) ≤ℤ number p (numbers_of c.levels.left) v k
state_low p allowed share c state v k h q =
    let is = state.numbers.choices v k h q in
    let low = state.level.low v k h q in
    let most = state.level.most in
    omega (arith, ints)

pub border_most : (p : Problem) (allowed : Allowed) (share : ℕ) (c : Climb) (l side : ℕ) (m : ℤ) → IsState p allowed share c → l < length p.links → IsLeastOfThree p allowed (numbers_of c.levels.left) c.levels.tips.items l side m → m ≤ℤ pos (2 ^ 111)
border_most p allowed share c l side m state h three =
    let tip = state.tips.each (near_end p l side) (near_below p l side state.rules h) in
    let gap = tip.gap.high in
    let under = (three_most p allowed (numbers_of c.levels.left) c.levels.tips.items l side m three).0 in
    omega (arith, ints)

pub escape_most : (p : Problem) (allowed : Allowed) (share : ℕ) (c : Climb) (v : ℕ) (m : ℤ) → IsState p allowed share c → v < areas p → IsMet p allowed (numbers_of c.levels.left) c.levels.tips.items v m → m ≤ℤ pos (2 ^ 111)
escape_most p allowed share c v m state h met =
    let tip = state.tips.each v h in
    let gap = tip.gap.high in
    let under = met.gap in
    omega (arith, ints)
