use Rattle.std.proofs.Common.{◌≡◌, [], ◌∷◌, ◌++◌, ap, sym, ◌∙◌, arith, subst, length}
use Rattle.std.specs.Prelude.{ℤ, ◌+ℤ◌}
use Rattle.std.specs.Int.{w128}
use Rattle.std.proofs.lemmas.Int.{ints, to_z-of_z}
use mir.Val.{to_z, of_z}
use Rattle.row_laws.specs.declared.row.Row.TheVariants.{Border}
use Rattle.row_laws.specs.Rows.{near_end}
use Rattle.bound_rows.specs.Domains.{allows}
use Rattle.relax_bound.specs.Levels.{numbers_of, tip_at, value_at, after_units, coefficient, AreTips}
use Rattle.relax_bound.specs.declared.levels.Levels.{Levels}
use Rattle.bound_rows.specs.Scratch.{IsAt}
use Rattle.relax_bound.proofs.ClimbLemmas.{count_more}
use Rattle.relax_bound.proofs.StateLemmas.{state_total, state_high, state_low, border_most, border_state}
use Rattle.relax_bound.proofs.climb.Climb.add_border.Goals as goal

pub take_border-requires-clause-high : goal.take_border-requires-clause-high
take_border-requires-clause-high c = state_high c.args.problem.now (allows c.args.domains.now) c.args.share c.args.self.now c.requires.state

pub take_border-requires-clause-low : goal.take_border-requires-clause-low
take_border-requires-clause-low c = state_low c.args.problem.now (allows c.args.domains.now) c.args.share c.args.self.now c.requires.state

pub push-requires-clause-total : goal.push-requires-clause-total
push-requires-clause-total c =
    let total = state_total c.args.problem.now (allows c.args.domains.now) c.args.share c.args.self.now c.requires.state c.requires.room in
    total.0

pub push-requires-clause-most : goal.push-requires-clause-most
push-requires-clause-most c =
    let total = (state_total c.args.problem.now (allows c.args.domains.now) c.args.share c.args.self.now c.requires.state c.requires.room).1 in
    let most = border_most c.args.problem.now (allows c.args.domains.now) c.args.share c.args.self.now c.args.link c.args.side c.args.units c.requires.state c.requires.link c.requires.least in
    let units = c.ranges.units in
    omega (arith, ints)

pub returns-clause-state : goal.returns-clause-state
returns-clause-state c =
    let p = c.args.problem.now in
    let ok = allows c.args.domains.now in
    let old = c.args.self.now in
    let k = (tip_at old.levels.tips.items (near_end p c.args.link c.args.side)).class in
    let class : c.class-class.result ≡ k = c.class-class.ensures ∙ ap (λ i. (tip_at old.levels.tips.items i).class) c.end_at-near.ensures.value in
    let units = to_z-of_z w128 c.args.units c.ranges.units in
    border_state p ok c.args.share old c.push.new.self c.args.link c.args.side c.args.units c.requires.state c.requires.room c.requires.link c.requires.side c.requires.least c.requires.some
    (record {
      leads = c.push.ensures.leads;
      rows = c.in_ok-push.ensures.rows ∙ (ap (λ i. old.rows.items ++ (Border c.args.link c.args.side i, to_z w128 (of_z w128 c.args.units)) ∷ []) class ∙ ap (λ (x : ℤ). old.rows.items ++ (Border c.args.link c.args.side k, x) ∷ []) units);
      total = c.in_ok-push.ensures.total ∙ ap (λ (x : ℤ). old.total +ℤ x) units;
      marks = c.in_ok-push.ensures.count;
      numbers = subst (λ (x : Levels). IsAt p (after_units (value_at p (numbers_of old.levels.left)) (coefficient p (Border c.args.link c.args.side k)) c.args.units) (numbers_of x.left)) (sym c.push.ensures.levels) (subst (λ (x : ℤ). IsAt p (after_units (value_at p (numbers_of old.levels.left)) (coefficient p (Border c.args.link c.args.side k)) x) (numbers_of c.take_border.new.self.left)) units c.take_border.ensures.numbers);
      tips = subst (λ (x : Levels). AreTips p ok (numbers_of x.left) x.tips.items) (sym c.push.ensures.levels) c.take_border.ensures.tips;
    })

pub returns-clause-more : goal.returns-clause-more
returns-clause-more c =
    let rows = ap length c.in_ok-push.ensures.rows in
    let count = count_more c.args.self.now.rows.items (Border c.args.link c.args.side c.class-class.result) (to_z w128 (of_z w128 c.args.units)) in
    omega arith
