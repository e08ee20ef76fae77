use Rattle.std.proofs.Common.{◌≡◌, ◌<◌, ◌*◌, ◌+◌, ◌∙◌, sym, ap, subst, arith, rules, ℕ, pos, get_or, set}
use Rattle.std.specs.Prelude.{◌-ℤ◌, FitsSigned}
use Rattle.std.specs.Int.{w128}
use Rattle.std.proofs.lemmas.Int.{ints}
use Rattle.std.proofs.lemmas.Grind.{common_steps}
use Rattle.row_laws.specs.Rows.{Choice}
use Rattle.row_laws.specs.Exact.{lower}
use Rattle.bound_rows.specs.Scratch.{IsAt, Numbers}
use Rattle.bound_rows.proofs.LoweringLemmas.{choice_lowered}
use Rattle.bound_rows.proofs.numbers.Numbers.lower_choice.Goals as goal
use mir.Val.{to_z, of_z}

pub returns-in-Some-clause-lowered : goal.returns-in-Some-clause-lowered
returns-in-Some-clause-lowered c = λ _ p f e hv h.
    let at = c.args.area * c.args.classes + c.args.class in
    let fits : FitsSigned w128 c.index.result.now = search rules in
    let s = c.in-Some.ensures in
    let read : c.index.result.now ≡ get_or c.self.inside.choices.items at (pos 0) = grind (arith, common_steps) in
    let view : c.args.self.now ≡ record { choices = c.self.inside.choices.items; links = c.self.inside.links.items } = sym c.self.view_is in
    let h' : IsAt p f (record { choices = c.self.inside.choices.items; links = c.self.inside.links.items }) = subst (λ (t : Numbers). IsAt p f t) view h in
    let class : c.args.class < p.classes = omega arith in
    let here : get_or c.self.inside.choices.items (c.args.area * p.classes + c.args.class) (pos 0) ≡ f (Choice c.args.area c.args.class) = h'.choices c.args.area c.args.class hv class in
    let same : get_or c.self.inside.choices.items at (pos 0) ≡ f (Choice c.args.area c.args.class) =
    ap (λ k. get_or c.self.inside.choices.items (c.args.area * k + c.args.class) (pos 0)) (sym e) ∙ here in
    let amount = c.ranges.amount in
    let difference = s.1 in
    let within = s.0 in
    let value : to_z w128 (of_z w128 c.in-Some.number) ≡ f (Choice c.args.area c.args.class) -ℤ c.args.amount = omega (arith, ints) in
    subst
    (λ (k : ℕ). IsAt p (lower f (Choice c.args.area c.args.class) c.args.amount) (record { choices = set c.self.inside.choices.items (c.args.area * k + c.args.class) (to_z w128 (of_z w128 c.in-Some.number)); links = c.self.inside.links.items }))
    e
    (choice_lowered p f _ c.args.area c.args.class c.args.amount _ class hv value h')
