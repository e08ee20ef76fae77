use Rattle.std.proofs.Common.{◌≡◌, ◌≢◌, ◌<◌, ℕ, ap, sym, ◌∙◌, arith, subst, inl}
use Rattle.std.specs.Prelude.{ℤ, ◌≤ℤ◌}
use Rattle.std.specs.Int.{w128}
use Rattle.std.proofs.lemmas.Int.{ints, to_z-of_z}
use Rattle.agg_model.specs.Problem.{areas}
use Rattle.row_laws.specs.declared.row.Row.TheVariants.{Border}
use Rattle.row_laws.specs.Rows.{near_end, far_end}
use Rattle.bound_rows.specs.Domains.{allows}
use Rattle.bound_rows.specs.Scratch.{IsAt, HasRoom, Numbers}
use Rattle.relax_bound.specs.declared.tips.Tip.{Tip}
use Rattle.relax_bound.specs.Levels.{numbers_of, number, value_at, after_units, coefficient, tip_at, drop_at}
use Rattle.relax_bound.proofs.PushLemmas.{ends_apart}
use Rattle.relax_bound.proofs.UnitLemmas.{three_most, drop_above}
use Rattle.relax_bound.proofs.NumberLemmas.{tips_same, lowered_other, link_lowered_room, border_numbers}
use Rattle.relax_bound.proofs.LeanLemmas.{three_steps}
use Rattle.relax_bound.proofs.levels.Levels.take_border.Goals as goal

pub lower_link-requires-clause-fits : goal.lower_link-requires-clause-fits
lower_link-requires-clause-fits c = λ f.
    let under = (three_most c.args.problem.now (allows c.args.domains.now) (numbers_of c.args.self.now.left) c.args.self.now.tips.items c.args.link c.args.side c.args.units c.requires.least).1 in
    let some = c.requires.some in
    let units = c.ranges.units in
    omega (arith, ints)

pub raise-requires-clause-tips : goal.raise-requires-clause-tips
raise-requires-clause-tips c =
    let p = c.args.problem.now in
    tips_same p (allows c.args.domains.now) (numbers_of c.args.self.now.left) (numbers_of c.lower_link.new.self) c.args.self.now.tips.items c.requires.tips (λ u j hu hj. ap (λ (x : Numbers). number p x u j) c.lower_link.ensures)

pub raise-requires-clause-gap : goal.raise-requires-clause-gap
raise-requires-clause-gap c =
    let under = (three_most c.args.problem.now (allows c.args.domains.now) (numbers_of c.args.self.now.left) c.args.self.now.tips.items c.args.link c.args.side c.args.units c.requires.least).0 in
    let units = c.ranges.units in
    let same = ap (λ i. (tip_at c.args.self.now.tips.items i).gap) c.requires.near in
    omega (arith, ints)

pub raise-requires-clause-most : goal.raise-requires-clause-most
raise-requires-clause-most c =
    let tip = c.requires.tips.each c.args.near c.requires.within.0 in
    let high = c.requires.high c.args.near (tip_at c.args.self.now.tips.items c.args.near).class c.requires.within.0 tip.class in
    let least = tip.least in
    omega (arith, ints)

pub lean-requires-clause-most : goal.lean-requires-clause-most
lean-requires-clause-most c =
    let under = (three_most c.args.problem.now (allows c.args.domains.now) (numbers_of c.args.self.now.left) c.args.self.now.tips.items c.args.link c.args.side c.args.units c.requires.least).0 in
    let units = c.ranges.units in
    let same = ap (λ i. (tip_at c.args.self.now.tips.items i).gap) c.requires.near in
    let tip = c.requires.tips.each c.args.near c.requires.within.0 in
    let high = tip.gap.high in
    omega (arith, ints)

apart : (c : goal.After-lean-arg-1) → c.args.far ≢ c.args.near
apart c = λ e. ends_apart c.args.problem.now c.args.link c.args.side c.requires.rules c.requires.link (sym c.requires.near ∙ (sym e ∙ c.requires.far))

far_number : (c : goal.After-lean-arg-1) → number c.args.problem.now (numbers_of c.raise.new.self.left) c.args.far c.class-class.result ≡ number c.args.problem.now (numbers_of c.args.self.now.left) c.args.far c.class-class.result
far_number c =
    let p = c.args.problem.now in
    let s = numbers_of c.args.self.now.left in
    let tip = c.requires.tips.each c.args.near c.requires.within.0 in
    let class = subst (λ (x : ℕ). x < p.classes) (sym c.class-class.ensures) tip.class in
    let room : HasRoom p (numbers_of c.lower_link.new.self) = subst (λ (x : Numbers). HasRoom p x) (sym c.lower_link.ensures) (link_lowered_room p s c.args.link _ c.requires.room) in
    ap (λ (x : Numbers). number p x c.args.far c.class-class.result) c.raise.ensures.numbers
    ∙ (lowered_other p (numbers_of c.lower_link.new.self) c.args.near (tip_at c.args.self.now.tips.items c.args.near).class c.args.far c.class-class.result _ room c.requires.within.0 tip.class c.requires.within.1 class (inl (apart c))
    ∙ ap (λ (x : Numbers). number p x c.args.far c.class-class.result) c.lower_link.ensures)

pub lean-requires-clause-drop : goal.lean-requires-clause-drop
lean-requires-clause-drop c = λ open'.
    let p = c.args.problem.now in
    let ok = allows c.args.domains.now in
    let s = numbers_of c.args.self.now.left in
    let tips = c.args.self.now.tips.items in
    let under = (three_most c.args.problem.now (allows c.args.domains.now) (numbers_of c.args.self.now.left) c.args.self.now.tips.items c.args.link c.args.side c.args.units c.requires.least).2 in
    let class = c.class-class.ensures ∙ ap (λ i. (tip_at tips i).class) c.requires.near in
    let at = ap (λ u. drop_at p ok s tips u c.class-class.result) c.requires.far ∙ ap (drop_at p ok s tips (far_end p c.args.link c.args.side)) class in
    let drop = drop_above (ok c.args.far c.class-class.result) (number p s c.args.far c.class-class.result) (tip_at tips c.args.far).least c.args.units open' (subst (λ (x : ℤ). c.args.units ≤ℤ x) (sym at) under) in
    let same = far_number c in
    let tip = ap (λ (x : Tip). x.least) (c.raise.ensures.others c.args.far (apart c)) in
    let units = c.ranges.units in
    omega (arith, ints)

pub lean-requires-clause-low : goal.lean-requires-clause-low
lean-requires-clause-low c =
    let p = c.args.problem.now in
    let tip = c.requires.tips.each c.args.near c.requires.within.0 in
    let class = subst (λ (x : ℕ). x < p.classes) (sym c.class-class.ensures) tip.class in
    let low = c.requires.low c.args.far c.class-class.result c.requires.within.1 class in
    let same = far_number c in
    let under = (three_most c.args.problem.now (allows c.args.domains.now) (numbers_of c.args.self.now.left) c.args.self.now.tips.items c.args.link c.args.side c.args.units c.requires.least).0 in
    let gap = ap (λ i. (tip_at c.args.self.now.tips.items i).gap) c.requires.near in
    let high = tip.gap.high in
    let units = c.ranges.units in
    omega (arith, ints)

pub returns-clause-numbers : goal.returns-clause-numbers
returns-clause-numbers c =
    let p = c.args.problem.now in
    let s = numbers_of c.args.self.now.left in
    let tips = c.args.self.now.tips.items in
    let near = near_end p c.args.link c.args.side in
    let far = far_end p c.args.link c.args.side in
    let k = (tip_at tips near).class in
    let tip = c.requires.tips.each c.args.near c.requires.within.0 in
    let near_class = ap (λ i. (tip_at tips i).class) c.requires.near in
    let class = subst (λ (x : ℕ). x < p.classes) near_class tip.class in
    let nb = subst (λ (x : ℕ). x < areas p) c.requires.near c.requires.within.0 in
    let fb = subst (λ (x : ℕ). x < areas p) c.requires.far c.requires.within.1 in
    let steps = three_steps p s (numbers_of c.lower_link.new.self) (numbers_of c.raise.new.self.left) (numbers_of c.lean.new.self.left) c.args.link c.args.near near c.args.far far k (tip_at tips c.args.near).class c.class-class.result c.args.units _ c.lower_link.ensures c.raise.ensures.numbers c.lean.ensures.numbers c.requires.near c.requires.far near_class (c.class-class.ensures ∙ near_class) (to_z-of_z w128 c.args.units c.ranges.units) in
    subst (λ (x : Numbers). IsAt p (after_units (value_at p s) (coefficient p (Border c.args.link c.args.side k)) c.args.units) x) (sym steps) (border_numbers p s c.args.link c.args.side k c.args.units c.requires.room c.requires.link nb fb class)
