use Rattle.std.proofs.Common.{ℕ, List, [], ◌∷◌, ◌++◌, ap, sym, ◌∙◌, arith, subst, length}
use Rattle.std.specs.Prelude.{ℤ, ◌+ℤ◌}
use Rattle.std.specs.Int.{w128}
use Rattle.std.proofs.lemmas.Int.{ints, to_z-of_z}
use mir.Val.{to_z, of_z}
use Rattle.row_laws.specs.declared.row.Row.TheVariants.{Escape}
use Rattle.bound_rows.specs.Domains.{allows}
use Rattle.bound_rows.specs.Scratch.{IsAt}
use Rattle.relax_bound.specs.declared.levels.Levels.{Levels}
use Rattle.relax_bound.specs.Levels.{numbers_of, tip_at, value_at, after_units, coefficient, AreTips}
use Rattle.relax_bound.proofs.ClimbLemmas.{count_more}
use Rattle.relax_bound.proofs.StateLemmas.{state_total, state_high, state_low, escape_most, escape_state}
use Rattle.relax_bound.proofs.climb.Climb.add_escape.Goals as goal

pub take_escape-requires-clause-high : goal.take_escape-requires-clause-high
take_escape-requires-clause-high c = state_high c.args.problem.now (allows c.args.domains.now) c.args.share c.args.self.now c.requires.state

pub take_escape-requires-clause-low : goal.take_escape-requires-clause-low
take_escape-requires-clause-low c = state_low c.args.problem.now (allows c.args.domains.now) c.args.share c.args.self.now c.requires.state

pub push-requires-clause-total : goal.push-requires-clause-total
push-requires-clause-total c =
    let total = state_total c.args.problem.now (allows c.args.domains.now) c.args.share c.args.self.now c.requires.state c.requires.room in
    total.0

pub push-requires-clause-most : goal.push-requires-clause-most
push-requires-clause-most c =
    let total = (state_total c.args.problem.now (allows c.args.domains.now) c.args.share c.args.self.now c.requires.state c.requires.room).1 in
    let most = escape_most c.args.problem.now (allows c.args.domains.now) c.args.share c.args.self.now c.args.area c.args.units c.requires.state c.requires.area c.requires.most in
    let units = c.ranges.units in
    omega (arith, ints)

pub returns-clause-state : goal.returns-clause-state
returns-clause-state c =
    let p = c.args.problem.now in
    let ok = allows c.args.domains.now in
    let old = c.args.self.now in
    let v = c.args.area in
    let k = (tip_at old.levels.tips.items v).class in
    let m = to_z w128 (of_z w128 c.args.units) in
    let units = to_z-of_z w128 c.args.units c.ranges.units in
    escape_state p ok c.args.share old c.push.new.self v c.args.units c.requires.state c.requires.room c.requires.form c.requires.most c.requires.some
    (record {
      leads = c.push.ensures.leads;
      rows = c.in_ok-push.ensures.rows ∙ (ap (λ i. old.rows.items ++ (Escape v i c.in_ok-set.set, m) ∷ []) c.class-class.ensures ∙ (ap (λ (x : List ℕ). old.rows.items ++ (Escape v k x, m) ∷ []) c.in_ok-set.ensures ∙ ap (λ (x : ℤ). old.rows.items ++ (Escape v k (v ∷ []), x) ∷ []) units));
      total = c.in_ok-push.ensures.total ∙ ap (λ (x : ℤ). old.total +ℤ x) units;
      marks = c.in_ok-push.ensures.count;
      numbers = subst (λ (x : Levels). IsAt p (after_units (value_at p (numbers_of old.levels.left)) (coefficient p (Escape v k (v ∷ []))) c.args.units) (numbers_of x.left)) (sym c.push.ensures.levels) (subst (λ (x : ℤ). IsAt p (after_units (value_at p (numbers_of old.levels.left)) (coefficient p (Escape v k (v ∷ []))) x) (numbers_of c.take_escape.new.self.left)) units c.take_escape.ensures.numbers);
      tips = subst (λ (x : Levels). AreTips p ok (numbers_of x.left) x.tips.items) (sym c.push.ensures.levels) c.take_escape.ensures.tips;
    })

pub returns-clause-more : goal.returns-clause-more
returns-clause-more c =
    let rows = ap length c.in_ok-push.ensures.rows in
    let count = count_more c.args.self.now.rows.items (Escape c.args.area c.class-class.result c.in_ok-set.set) (to_z w128 (of_z w128 c.args.units)) in
    omega arith
