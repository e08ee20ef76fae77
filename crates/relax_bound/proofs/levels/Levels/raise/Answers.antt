use Rattle.std.proofs.Common.{◌≡◌, ℕ, ap, sym, ◌∙◌, arith, subst, rules}
use Rattle.std.specs.Prelude.{ℤ, neg_ℤ, ◌+ℤ◌, FitsSigned}
use Rattle.std.specs.Int.{w128}
use Rattle.std.proofs.lemmas.Int.{ints, to_z-of_z}
use mir.Val.{to_z, of_z}
use Rattle.bound_rows.specs.Domains.{allows}
use Rattle.relax_bound.specs.declared.tips.Tip.{Tip}
use Rattle.relax_bound.specs.Levels.{numbers_of, number, lowered_choice, tip_at, IsGap, AreTips}
use Rattle.relax_bound.specs.declared.left.Left.{Left}
use Rattle.relax_bound.proofs.LeanLemmas.{lowered_as, raised_lowest, raised}
use Rattle.relax_bound.proofs.levels.Levels.raise.Goals as goal

pub lower_choice-requires-clause-fits : goal.lower_choice-requires-clause-fits
lower_choice-requires-clause-fits c = λ f.
    let t = c.tip_at-tip.result in
    let tip = c.requires.tips.each c.args.area c.requires.area in
    let most = c.requires.most in
    let gap = c.requires.gap in
    let high = tip.gap.high in
    let low = c.requires.low in
    let least = tip.least in
    let least0 = tip.low in
    let units = c.ranges.units in
    let class = ap (λ (x : Tip). number c.args.problem.now (numbers_of c.args.self.now.left) c.args.area x.class) c.tip_at-tip.ensures in
    omega (arith, ints)

pub gap-gap-requires-clause-low : goal.gap-gap-requires-clause-low
gap-gap-requires-clause-low c =
    let p = c.args.problem.now in
    let under = c.requires.gap in
    let is = ap (λ (x : Tip). x.gap) c.tip_at-tip.ensures in
    let units = c.ranges.units in
    (raised_lowest p (allows c.args.domains.now) (numbers_of c.args.self.now.left) (numbers_of c.lower_choice.new.self) c.args.self.now.tips.items c.args.area c.tip_at-tip.result c.args.units c.requires.room c.requires.tips c.requires.area c.tip_at-tip.ensures c.requires.low (omega (arith, ints))
    (lowered_as p (numbers_of c.args.self.now.left) (numbers_of c.lower_choice.new.self) c.args.area c.tip_at-tip.result.class _ (neg_ℤ c.args.units) c.lower_choice.ensures (omega (arith, ints)))).1

pub gap-gap-requires-clause-least : goal.gap-gap-requires-clause-least
gap-gap-requires-clause-least c =
    let p = c.args.problem.now in
    let under = c.requires.gap in
    let is = ap (λ (x : Tip). x.gap) c.tip_at-tip.ensures in
    let units = c.ranges.units in
    (raised_lowest p (allows c.args.domains.now) (numbers_of c.args.self.now.left) (numbers_of c.lower_choice.new.self) c.args.self.now.tips.items c.args.area c.tip_at-tip.result c.args.units c.requires.room c.requires.tips c.requires.area c.tip_at-tip.ensures c.requires.low (omega (arith, ints))
    (lowered_as p (numbers_of c.args.self.now.left) (numbers_of c.lower_choice.new.self) c.args.area c.tip_at-tip.result.class _ (neg_ℤ c.args.units) c.lower_choice.ensures (omega (arith, ints)))).2

pub overflow_add-least : goal.overflow_add-least
overflow_add-least c =
    let tip = c.requires.tips.each c.args.area c.requires.area in
    let most = c.requires.most in
    let gap = c.requires.gap in
    let high = tip.gap.high in
    let low = c.requires.low in
    let least0 = tip.low in
    let units = c.ranges.units in
    let is = ap (λ (x : Tip). x.least) c.tip_at-tip.ensures in
    omega (arith, ints)

pub returns-clause-numbers : goal.returns-clause-numbers
returns-clause-numbers c =
    let p = c.args.problem.now in
    let s = numbers_of c.args.self.now.left in
    let units = c.ranges.units in
    ap numbers_of c.put_tip.ensures.left
    ∙ (lowered_as p s (numbers_of c.lower_choice.new.self) c.args.area c.tip_at-tip.result.class _ (neg_ℤ c.args.units) c.lower_choice.ensures (omega (arith, ints))
    ∙ ap (λ (x : Tip). lowered_choice p s c.args.area x.class (neg_ℤ c.args.units)) c.tip_at-tip.ensures)

-- the tips, and those that stay
tips : (c : goal.After-put_tip) → AreTips c.args.problem.now (allows c.args.domains.now) (numbers_of c.put_tip.new.self.left) c.put_tip.new.self.tips.items × ((u : ℕ) → (u ≡ c.args.area → ⊥) → tip_at c.put_tip.new.self.tips.items u ≡ tip_at c.args.self.now.tips.items u)
tips c =
    let p = c.args.problem.now in
    let s = numbers_of c.args.self.now.left in
    let ok = allows c.args.domains.now c.args.area in
    let class = c.tip_at-tip.result.class in
    let tip = c.requires.tips.each c.args.area c.requires.area in
    let most = c.requires.most in
    let high = tip.gap.high in
    let low = c.requires.low in
    let least0 = tip.low in
    let under = c.requires.gap in
    let is = ap (λ (x : Tip). x.gap) c.tip_at-tip.ensures in
    let least = ap (λ (x : Tip). x.least) c.tip_at-tip.ensures in
    let units = c.ranges.units in
    let sum : to_z w128 (of_z w128 (to_z w128 (of_z w128 c.tip_at-tip.result.least) +ℤ to_z w128 (of_z w128 c.args.units))) ≡ c.tip_at-tip.result.least +ℤ c.args.units = omega (arith, ints) in
    let fg : FitsSigned w128 c.gap-gap.result = search rules in
    let gap = subst (λ (x : ℤ). IsGap ok (number p (numbers_of c.lower_choice.new.self) c.args.area) p.classes class x) (sym (to_z-of_z w128 c.gap-gap.result fg)) c.gap-gap.ensures in
    raised p (allows c.args.domains.now) s (numbers_of c.put_tip.new.self.left) c.args.self.now.tips.items c.put_tip.new.self.tips.items c.args.area c.tip_at-tip.result c.args.units _ _ c.requires.room c.requires.tips c.requires.area c.tip_at-tip.ensures c.requires.low (omega (arith, ints))
    (ap numbers_of c.put_tip.ensures.left ∙ lowered_as p s (numbers_of c.lower_choice.new.self) c.args.area class _ (neg_ℤ c.args.units) c.lower_choice.ensures (omega (arith, ints)))
    (subst (λ (x : Left). IsGap ok (number p (numbers_of x) c.args.area) p.classes class (to_z w128 (of_z w128 c.gap-gap.result))) (sym c.put_tip.ensures.left) gap)
    sum c.put_tip.ensures.tips

pub returns-clause-tips : goal.returns-clause-tips
returns-clause-tips c = (tips c).0

pub returns-clause-others : goal.returns-clause-others
returns-clause-others c = (tips c).1
