use Rattle.std.proofs.Common.{◌≡◌, true, ap, sym, ◌∙◌, arith, rules}
use Rattle.std.specs.Prelude.{◌-ℤ◌, FitsSigned}
use Rattle.std.specs.Int.{w128}
use Rattle.std.proofs.lemmas.Int.{ints}
use mir.Val.{to_z, of_z}
use Rattle.bound_rows.specs.Domains.{allows}
use Rattle.relax_bound.specs.declared.tips.Tip.{Tip}
use Rattle.relax_bound.specs.Levels.{numbers_of, number, tip_at, drop_of}
use Rattle.relax_bound.proofs.UnitLemmas.{tip_lowest}
use Rattle.relax_bound.proofs.levels.Levels.drop_at.Goals as goal

pub allows-requires-clause-class : goal.allows-requires-clause-class
allows-requires-clause-class c =
    let few = c.requires.rules.few_classes in
    let below = c.requires.class in
    omega arith

pub overflow_sub-result : goal.overflow_sub-result
overflow_sub-result c =
    let p = c.args.problem.now in
    let s = numbers_of c.args.self.now.left in
    let tip = c.requires.tips.each c.args.area c.requires.area in
    let t = tip_at c.args.self.now.tips.items c.args.area in
    let low = tip.low in
    let least = tip.least in
    let above = tip_lowest (allows c.args.domains.now c.args.area) (number p s c.args.area) p.classes t c.args.class tip c.requires.class (sym c.allows.ensures ∙ c.if-allows.true) in
    let is = ap (λ (x : Tip). x.least) c.tip_at.ensures in
    let number' = c.choice.ensures in
    let fits : FitsSigned w128 c.choice.result = search rules in
    omega (arith, ints)

pub returns-then-allows-clause-value : goal.returns-then-allows-clause-value
returns-then-allows-clause-value c =
    let p = c.args.problem.now in
    let s = numbers_of c.args.self.now.left in
    let tip = c.requires.tips.each c.args.area c.requires.area in
    let t = tip_at c.args.self.now.tips.items c.args.area in
    let low = tip.low in
    let least = tip.least in
    let open' : allows c.args.domains.now c.args.area c.args.class ≡ true = sym c.allows.ensures ∙ c.if-allows.true in
    let above = tip_lowest (allows c.args.domains.now c.args.area) (number p s c.args.area) p.classes t c.args.class tip c.requires.class open' in
    let is = ap (λ (x : Tip). x.least) c.tip_at.ensures in
    let number' = c.choice.ensures in
    let fits : FitsSigned w128 c.choice.result = search rules in
    let value : to_z w128 (of_z w128 (to_z w128 (of_z w128 c.choice.result) -ℤ to_z w128 (of_z w128 c.tip_at.result.least))) ≡ number p s c.args.area c.args.class -ℤ t.least = omega (arith, ints) in
    value ∙ sym (ap (λ b. drop_of b (number p s c.args.area c.args.class) t.least) open')

pub returns-then-allows-clause-low : goal.returns-then-allows-clause-low
returns-then-allows-clause-low c =
    let p = c.args.problem.now in
    let s = numbers_of c.args.self.now.left in
    let tip = c.requires.tips.each c.args.area c.requires.area in
    let t = tip_at c.args.self.now.tips.items c.args.area in
    let low = tip.low in
    let least = tip.least in
    let above = tip_lowest (allows c.args.domains.now c.args.area) (number p s c.args.area) p.classes t c.args.class tip c.requires.class (sym c.allows.ensures ∙ c.if-allows.true) in
    let is = ap (λ (x : Tip). x.least) c.tip_at.ensures in
    let number' = c.choice.ensures in
    let fits : FitsSigned w128 c.choice.result = search rules in
    omega (arith, ints)
