use Rattle.std.proofs.Common.{◌≡◌, ◌≢◌, ◌-◌, ◌*◌, ◌<◌, ◌≤◌, ℕ, refl, ap, sym, ◌∙◌, arith, subst, length}
use Rattle.std.specs.Prelude.{ℤ, pos, ◌+ℤ◌, ◌-ℤ◌, ◌≤ℤ◌, ◌==◌, slice_index}
use Rattle.whole_ring.specs.Sums.{when}
use Rattle.std.specs.Int.{w128}
use Rattle.std.proofs.lemmas.Int.{ints, to_z-of_z}
use mir.Val.{to_z, of_z}
use Rattle.agg_model.specs.Problem.{Problem, IsProblem}
use Rattle.row_laws.specs.Rows.{Choice, Across}
use Rattle.row_laws.specs.Values.{amount_at}
use Rattle.bound_rows.specs.Domains.{allows}
use Rattle.bound_rows.specs.Scratch.{IsAt, IsLast, way_from, way_to, Numbers, HasRoom}
use Rattle.bound_rows.proofs.WayLemmas.{way_below}
use Rattle.relax_bound.specs.Levels.{numbers_of, number, tip_at, value_at, lowered_choice}
use Rattle.relax_bound.specs.Leads.{beside, choices_of}
use Rattle.relax_bound.proofs.PushLemmas.{is_eqb}
use Rattle.relax_bound.proofs.NumberLemmas.{at_value, at_same}
use Rattle.relax_bound.proofs.LeadLemmas.{beside_last, amount_least, amount_once, amount_head, beside_lead, lean_numbers}
use Rattle.relax_bound.proofs.levels.Levels.lean_beside.Goals as goal

-- ---- before the walk, and after it

cancel : (x a b : ℤ) → a ≡ b → x ≡ x -ℤ a +ℤ b
cancel x a b e = omega (arith, ints)

ended : (x a b z : ℤ) → a ≡ b → z ≡ pos 0 → x -ℤ a +ℤ z ≡ x -ℤ b
ended x a b z e n = omega (arith, ints)

first : (p : Problem) (s : Numbers) (v k lead : ℕ) (m : ℤ) → HasRoom p s → beside p v (2 * length p.links) ≡ beside p v lead → IsAt p (λ at. value_at p s at -ℤ amount_at (choices_of k m (beside p v (2 * length p.links))) at +ℤ amount_at (choices_of k m (beside p v lead)) at) s
first p s v k lead m room list =
    at_same p (value_at p s) (λ at. value_at p s at -ℤ amount_at (choices_of k m (beside p v (2 * length p.links))) at +ℤ amount_at (choices_of k m (beside p v lead)) at) s (at_value p s room)
    (λ u j hu hj. cancel (number p s u j) _ _ (ap (λ us. amount_at (choices_of k m us) (Choice u j)) list))
    (λ l hl. cancel (value_at p s (Across l)) _ _ (ap (λ us. amount_at (choices_of k m us) (Across l)) list))

over : (p : Problem) (s t : Numbers) (v k lead : ℕ) (m n : ℤ) → lead ≡ 0 → m ≡ n → IsAt p (λ at. value_at p s at -ℤ amount_at (choices_of k m (beside p v (2 * length p.links))) at +ℤ amount_at (choices_of k m (beside p v lead)) at) t → IsAt p (λ at. value_at p s at -ℤ amount_at (choices_of k n (beside p v (2 * length p.links))) at) t
over p s t v k lead m n none is at =
    at_same p (λ at. value_at p s at -ℤ amount_at (choices_of k m (beside p v (2 * length p.links))) at +ℤ amount_at (choices_of k m (beside p v lead)) at) (λ at. value_at p s at -ℤ amount_at (choices_of k n (beside p v (2 * length p.links))) at) t at
    (λ u j hu hj. ended (number p s u j) _ _ _ (ap (λ x. amount_at (choices_of k x (beside p v (2 * length p.links))) (Choice u j)) is) (ap (λ i. amount_at (choices_of k m (beside p v i)) (Choice u j)) none))
    (λ l hl. ended (value_at p s (Across l)) _ _ _ (ap (λ x. amount_at (choices_of k x (beside p v (2 * length p.links))) (Across l)) is) (ap (λ i. amount_at (choices_of k m (beside p v i)) (Across l)) none))

pub loop-lead-init : goal.loop-lead-init
loop-lead-init c =
    let p = c.args.problem.now in
    let last : IsLast p c.args.area (2 * length p.links) c.last-lead.result = subst (λ (x : ℕ). IsLast p c.args.area (2 * length p.links) x) (sym c.last-lead.ensures) (c.requires.leads.from_area c.args.area c.requires.area) in
    (last.most, last.from, first p (numbers_of c.args.self.now.left) c.args.area c.args.class c.last-lead.result _ c.requires.room (beside_last p c.args.area (2 * length p.links) c.last-lead.result last), c.requires.tips, λ v. refl)

pub returns-clause-numbers : goal.returns-clause-numbers
returns-clause-numbers c =
    over c.args.problem.now (numbers_of c.args.self.now.left) (numbers_of c.loop-lead.self.left) c.args.area c.args.class c.loop-lead.lead _ c.args.units c.loop-lead-test.false (to_z-of_z w128 c.args.units c.ranges.units) c.loop-lead.invariant.2

-- ---- one step

-- no number beside the area was lowered yet where its way was not met
not_yet : (p : Problem) (s t : Numbers) (v k lead before : ℕ) (m : ℤ) → IsProblem p → lead ≢ 0 → lead ≤ 2 * length p.links → way_from p (lead - 1) ≡ v → IsLast p (way_from p (lead - 1)) (lead - 1) before → k < p.classes → pos 0 ≤ℤ m → IsAt p (λ at. value_at p s at -ℤ amount_at (choices_of k m (beside p v (2 * length p.links))) at +ℤ amount_at (choices_of k m (beside p v lead)) at) t → number p s (way_to p (lead - 1)) k ≤ℤ number p t (way_to p (lead - 1)) k
not_yet p s t v k lead before m ok some most from last class low at =
    let h = lead - 1 in
    let w = way_to p h in
    let q : h < 2 * length p.links = omega arith in
    let below = way_below p h ok q in
    let is = at.choices w k below class in
    let once = amount_once p v k w h m ok (q, from, refl) in
    let list = ap (λ us. amount_at (choices_of k m us) (Choice w k)) (beside_lead p v lead before some from last) in
    let head = amount_head k w w m (beside p v before) in
    let rest = amount_least k w m (beside p v before) low in
    let here : when (w == w) m ≡ m = rw (is_eqb w w refl) refl in
    omega (arith, ints)

before_end : (c : goal.After-end_of) → IsLast c.args.problem.now (way_from c.args.problem.now (c.loop-lead.lead - 1)) (c.loop-lead.lead - 1) (slice_index c.args.leads.now.befores.items (c.loop-lead.lead - 1))
before_end c =
    let most = c.loop-lead.invariant.0 in
    let some = c.loop-lead-test.true in
    c.requires.leads.from_way (c.loop-lead.lead - 1) (omega arith)

kept : (c : goal.After-end_of) → number c.args.problem.now (numbers_of c.args.self.now.left) (way_to c.args.problem.now (c.loop-lead.lead - 1)) c.args.class ≤ℤ number c.args.problem.now (numbers_of c.loop-lead.self.left) (way_to c.args.problem.now (c.loop-lead.lead - 1)) c.args.class
kept c =
    let some = c.requires.some in
    let units = c.ranges.units in
    not_yet c.args.problem.now (numbers_of c.args.self.now.left) (numbers_of c.loop-lead.self.left) c.args.area c.args.class c.loop-lead.lead _ (to_z w128 (of_z w128 c.args.units)) c.requires.rules c.loop-lead-test.true c.loop-lead.invariant.0 (c.loop-lead.invariant.1 c.loop-lead-test.true) (before_end c) c.requires.class (omega (arith, ints)) c.loop-lead.invariant.2

pub lean-requires-clause-drop : goal.lean-requires-clause-drop
lean-requires-clause-drop c = λ open'.
    let p = c.args.problem.now in
    let h = c.loop-lead.lead - 1 in
    let most = c.loop-lead.invariant.0 in
    let some = c.loop-lead-test.true in
    let from = c.loop-lead.invariant.1 some in
    let w = c.end_of.ensures.value in
    let was = c.requires.drops h (omega arith) from (sym (ap (λ u. allows c.args.domains.now u c.args.class) w) ∙ open') in
    let more = kept c in
    let least = c.loop-lead.invariant.4 (way_to p h) in
    let units = c.ranges.units in
    let number' = ap (λ u. number p (numbers_of c.loop-lead.self.left) u c.args.class) w in
    let tip' = ap (λ u. (tip_at c.loop-lead.self.tips.items u).least) w in
    omega (arith, ints)

pub lean-requires-clause-low : goal.lean-requires-clause-low
lean-requires-clause-low c =
    let p = c.args.problem.now in
    let h = c.loop-lead.lead - 1 in
    let w = c.end_of.ensures.value in
    let more = kept c in
    let below = c.end_of.ensures.within in
    let low = c.requires.low c.end_of.result below in
    let most = c.requires.most in
    let units = c.ranges.units in
    let number' = ap (λ u. number p (numbers_of c.loop-lead.self.left) u c.args.class) w in
    let number0 = ap (λ u. number p (numbers_of c.args.self.now.left) u c.args.class) w in
    omega (arith, ints)

last : (c : goal.After-before-lead) → IsLast c.args.problem.now (way_from c.args.problem.now (c.loop-lead.lead - 1)) (c.loop-lead.lead - 1) c.before-lead.result
last c =
    let p = c.args.problem.now in
    let h = c.loop-lead.lead - 1 in
    let most = c.loop-lead.invariant.0 in
    let some = c.loop-lead-test.true in
    subst (λ (x : ℕ). IsLast p (way_from p h) h x) (sym c.before-lead.ensures) (c.requires.leads.from_way h (omega arith))

pub loop-lead-smaller : goal.loop-lead-smaller
loop-lead-smaller c =
    let most = (last c).most in
    let some = c.loop-lead-test.true in
    omega arith

pub loop-lead-preserved : goal.loop-lead-preserved
loop-lead-preserved c =
    let p = c.args.problem.now in
    let inv = c.loop-lead.invariant in
    let lead = c.loop-lead.lead in
    let h = lead - 1 in
    let some = c.loop-lead-test.true in
    let from = inv.1 some in
    let before = last c in
    let most = before.most in
    let most' = inv.0 in
    let s = numbers_of c.loop-lead.self.left in
    let m = to_z w128 (of_z w128 c.args.units) in
    let below = way_below p h c.requires.rules (omega arith) in
    let next = lean_numbers p (λ at. value_at p (numbers_of c.args.self.now.left) at -ℤ amount_at (choices_of c.args.class m (beside p c.args.area (2 * length p.links))) at) s c.args.area c.args.class lead c.before-lead.result m some from before below c.requires.class inv.2 in
    let is : numbers_of c.lean.new.self.left ≡ lowered_choice p s (way_to p h) c.args.class m = c.lean.ensures.numbers ∙ ap (λ u. lowered_choice p s u c.args.class m) c.end_of.ensures.value in (
      omega arith,
      (λ ne. before.from ne ∙ from),
      subst (λ (x : Numbers). IsAt p (λ at. value_at p (numbers_of c.args.self.now.left) at -ℤ amount_at (choices_of c.args.class m (beside p c.args.area (2 * length p.links))) at +ℤ amount_at (choices_of c.args.class m (beside p c.args.area c.before-lead.result)) at) x) (sym is) next,
      c.lean.ensures.tips,
      λ v. c.lean.ensures.least v ∙ inv.4 v,
    )
