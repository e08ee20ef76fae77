use Rattle.std.proofs.Common.{◌≡◌, ℕ, true, ap, sym, ◌∙◌, arith, rules, set}
use Rattle.std.specs.Prelude.{ℤ, ◌-ℤ◌, FitsSigned}
use Rattle.std.specs.Int.{w128, int_min}
use Rattle.std.proofs.lemmas.Int.{ints, to_z-of_z}
use mir.Val.{to_z, of_z}
use Rattle.bound_rows.specs.Domains.{allows}
use Rattle.relax_bound.specs.declared.tips.Tip.{Tip}
use Rattle.relax_bound.specs.Levels.{numbers_of, number, lowered_choice, tip_at, AreTips}
use Rattle.relax_bound.specs.declared.left.Left.{Left}
use Rattle.relax_bound.proofs.NumberLemmas.{lowered_here}
use Rattle.relax_bound.proofs.LeanLemmas.{leaned, shut_leaned}
use Rattle.relax_bound.proofs.levels.Levels.lean.Goals as goal

pub lower_choice-requires-clause-fits : goal.lower_choice-requires-clause-fits
lower_choice-requires-clause-fits c = λ f.
    let low = c.requires.low in
    let some = c.requires.some in
    let units = c.ranges.units in
    omega (arith, ints)

pub allows-requires-clause-class : goal.allows-requires-clause-class
allows-requires-clause-class c =
    let few = c.requires.rules.few_classes in
    let below = c.requires.class in
    omega arith

pub overflow_sub-above : goal.overflow_sub-above
overflow_sub-above c =
    let p = c.args.problem.now in
    let s = numbers_of c.args.self.now.left in
    let units = to_z-of_z w128 c.args.units c.ranges.units in
    let lowered = c.lower_choice.ensures ∙ ap (lowered_choice p s c.args.area c.args.class) units in
    let number' = c.choice.ensures ∙ (ap (λ x. number p x c.args.area c.args.class) lowered ∙ lowered_here p s c.args.area c.args.class c.args.units c.requires.room c.requires.area c.requires.class) in
    let drop = c.requires.drop (sym c.allows.ensures ∙ c.if-allows.true) in
    let low = (c.requires.tips.each c.args.area c.requires.area).low in
    let tip = ap (λ (x : Tip). x.least) c.tip_at-tip.ensures in
    let fits : FitsSigned w128 c.choice.result = search rules in
    omega (arith, ints)

-- the tips, and that their least numbers stay
tips : (c : goal.After-put_tip) → AreTips c.args.problem.now (allows c.args.domains.now) (numbers_of c.put_tip.new.self.left) c.put_tip.new.self.tips.items × ((u : ℕ) → (tip_at c.put_tip.new.self.tips.items u).least ≡ (tip_at c.args.self.now.tips.items u).least)
tips c =
    let p = c.args.problem.now in
    let s = numbers_of c.args.self.now.left in
    let s' = numbers_of c.put_tip.new.self.left in
    let t = c.tip_at-tip.result in
    let units = to_z-of_z w128 c.args.units c.ranges.units in
    let lowered = c.lower_choice.ensures ∙ ap (lowered_choice p s c.args.area c.args.class) units in
    let now : c.choice.result ≡ number p s' c.args.area c.args.class = c.choice.ensures ∙ ap (λ (x : Left). number p (numbers_of x) c.args.area c.args.class) (sym c.put_tip.ensures.left) in
    let then' = c.choice.ensures ∙ (ap (λ x. number p x c.args.area c.args.class) lowered ∙ lowered_here p s c.args.area c.args.class c.args.units c.requires.room c.requires.area c.requires.class) in
    let open' : allows c.args.domains.now c.args.area c.args.class ≡ true = sym c.allows.ensures ∙ c.if-allows.true in
    let drop = c.requires.drop open' in
    let tip = c.requires.tips.each c.args.area c.requires.area in
    let low = tip.low in
    let gap_low = tip.gap.low in
    let gap_high = tip.gap.high in
    let least = ap (λ (x : Tip). x.least) c.tip_at-tip.ensures in
    let gap = ap (λ (x : Tip). x.gap) c.tip_at-tip.ensures in
    let fits : FitsSigned w128 c.choice.result = search rules in
    let fm : FitsSigned w128 c.min.result = search rules in
    let d : to_z w128 (of_z w128 (to_z w128 (of_z w128 c.choice.result) -ℤ to_z w128 (of_z w128 t.least))) ≡ number p s' c.args.area c.args.class -ℤ t.least = omega (arith, ints) in
    let g : to_z w128 (of_z w128 t.gap) ≡ t.gap = omega (arith, ints) in
    let l : to_z w128 (of_z w128 t.least) ≡ t.least = omega (arith, ints) in
    let with_least : ℤ → Tip = λ x. record { class = t.class; least = x; gap = to_z w128 (of_z w128 c.min.result) } in
    leaned p (allows c.args.domains.now) s s' c.args.self.now.tips.items c.put_tip.new.self.tips.items c.args.area c.args.class t c.args.units _ c.requires.room c.requires.tips c.requires.area c.requires.class open' c.tip_at-tip.ensures c.requires.some drop (ap numbers_of c.put_tip.ensures.left ∙ lowered)
    (to_z-of_z w128 c.min.result fm ∙ (c.min.ensures.value ∙ (ap (λ (x : ℤ). int_min x (to_z w128 (of_z w128 (to_z w128 (of_z w128 c.choice.result) -ℤ to_z w128 (of_z w128 t.least))))) g ∙ ap (int_min t.gap) d)))
    (c.put_tip.ensures.tips ∙ ap (λ (x : ℤ). set c.args.self.now.tips.items c.args.area (with_least x)) l)

pub returns-then-allows-clause-tips : goal.returns-then-allows-clause-tips
returns-then-allows-clause-tips c = (tips c).0

pub returns-then-allows-clause-least : goal.returns-then-allows-clause-least
returns-then-allows-clause-least c = (tips c).1

pub returns-else-allows-clause-tips : goal.returns-else-allows-clause-tips
returns-else-allows-clause-tips c =
    let p = c.args.problem.now in
    let s = numbers_of c.args.self.now.left in
    let units = to_z-of_z w128 c.args.units c.ranges.units in
    let lowered = c.lower_choice.ensures ∙ ap (lowered_choice p s c.args.area c.args.class) units in
    shut_leaned p (allows c.args.domains.now) s (numbers_of c.lower_choice.new.self) c.args.self.now.tips.items c.args.area c.args.class c.args.units c.requires.room c.requires.tips c.requires.area c.requires.class (sym c.allows.ensures ∙ c.if-allows.false) lowered
