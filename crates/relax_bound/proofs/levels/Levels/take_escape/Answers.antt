use Rattle.std.proofs.Common.{◌*◌, ℕ, refl, ap, sym, ◌∙◌, arith, subst, length, inl}
use Rattle.std.specs.Prelude.{ℤ, neg_ℤ, ◌-ℤ◌}
use Rattle.std.specs.Int.{w128}
use Rattle.std.proofs.lemmas.Int.{ints, to_z-of_z}
use mir.Val.{to_z, of_z}
use Rattle.row_laws.specs.Values.{amount_at}
use Rattle.bound_rows.specs.Domains.{allows}
use Rattle.bound_rows.specs.Scratch.{IsAt, Numbers, way_to}
use Rattle.bound_rows.proofs.WayLemmas.{way_below}
use Rattle.relax_bound.specs.declared.tips.Tip.{Tip}
use Rattle.relax_bound.specs.Levels.{numbers_of, number, value_at, tip_at, lowered_choice}
use Rattle.relax_bound.specs.Leads.{beside, choices_of}
use Rattle.relax_bound.proofs.PushLemmas.{way_apart}
use Rattle.relax_bound.proofs.UnitLemmas.{drop_above}
use Rattle.relax_bound.proofs.NumberLemmas.{lowered_other, escape_numbers}
use Rattle.relax_bound.proofs.LeanLemmas.{raised_number}
use Rattle.relax_bound.proofs.levels.Levels.take_escape.Goals as goal

pub raise-requires-clause-most : goal.raise-requires-clause-most
raise-requires-clause-most c =
    let tip = c.requires.tips.each c.args.area c.requires.area in
    let high = c.requires.high c.args.area (tip_at c.args.self.now.tips.items c.args.area).class c.requires.area tip.class in
    let least = tip.least in
    omega (arith, ints)

pub lean_beside-requires-clause-most : goal.lean_beside-requires-clause-most
lean_beside-requires-clause-most c =
    let tip = c.requires.tips.each c.args.area c.requires.area in
    let high = tip.gap.high in
    let under = c.requires.most.gap in
    let units = c.ranges.units in
    omega (arith, ints)

pub lean_beside-requires-clause-drops : goal.lean_beside-requires-clause-drops
lean_beside-requires-clause-drops c = λ h q from open'.
    let p = c.args.problem.now in
    let ok = allows c.args.domains.now in
    let s = numbers_of c.args.self.now.left in
    let tips = c.args.self.now.tips.items in
    let k = (tip_at tips c.args.area).class in
    let w = way_to p h in
    let below = way_below p h c.requires.rules q in
    let apart = way_apart p c.args.area w h c.requires.rules (q, from, refl) in
    let tip = c.requires.tips.each c.args.area c.requires.area in
    let class = c.class-class.ensures in
    let under = c.requires.most.drops h q from in
    let drop = drop_above (ok w k) (number p s w k) (tip_at tips w).least c.args.units (sym (ap (ok w) class) ∙ open') under in
    let same = ap (λ (x : Numbers). number p x w c.class-class.result) c.raise.ensures.numbers ∙ (ap (number p (lowered_choice p s c.args.area k _) w) class ∙ lowered_other p s c.args.area k w k _ c.requires.room c.requires.area tip.class below tip.class (inl apart)) in
    let least = ap (λ (x : Tip). x.least) (c.raise.ensures.others w apart) in
    let units = c.ranges.units in
    omega (arith, ints)

pub lean_beside-requires-clause-low : goal.lean_beside-requires-clause-low
lean_beside-requires-clause-low c = λ v h.
    let p = c.args.problem.now in
    let s = numbers_of c.args.self.now.left in
    let tips = c.args.self.now.tips.items in
    let k = (tip_at tips c.args.area).class in
    let tip = c.requires.tips.each c.args.area c.requires.area in
    let some = c.requires.some in
    let units = c.ranges.units in
    let low = c.requires.low v k h tip.class in
    let more = raised_number p s (numbers_of c.raise.new.self.left) c.args.area k v (to_z w128 (of_z w128 c.args.units)) c.requires.room c.requires.area tip.class h (omega (arith, ints)) c.raise.ensures.numbers in
    let class = ap (number p (numbers_of c.raise.new.self.left) v) c.class-class.ensures in
    omega (arith, ints)

pub returns-clause-numbers : goal.returns-clause-numbers
returns-clause-numbers c =
    let p = c.args.problem.now in
    let s = numbers_of c.args.self.now.left in
    let tips = c.args.self.now.tips.items in
    let k = (tip_at tips c.args.area).class in
    let tip = c.requires.tips.each c.args.area c.requires.area in
    let us = beside p c.args.area (2 * length p.links) in
    let new = numbers_of c.lean_beside.new.self.left in
    let first = subst (λ (x : Numbers). IsAt p (λ at. value_at p x at -ℤ amount_at (choices_of c.class-class.result (to_z w128 (of_z w128 c.args.units)) us) at) new) c.raise.ensures.numbers c.lean_beside.ensures.numbers in
    let second = subst (λ (x : ℕ). IsAt p (λ at. value_at p (lowered_choice p s c.args.area k (neg_ℤ (to_z w128 (of_z w128 c.args.units)))) at -ℤ amount_at (choices_of x (to_z w128 (of_z w128 c.args.units)) us) at) new) c.class-class.ensures first in
    let third = subst (λ (x : ℤ). IsAt p (λ at. value_at p (lowered_choice p s c.args.area k (neg_ℤ x)) at -ℤ amount_at (choices_of k x us) at) new) (to_z-of_z w128 c.args.units c.ranges.units) second in
    escape_numbers p s new c.args.area k c.args.units c.requires.rules c.requires.room c.requires.area tip.class third
