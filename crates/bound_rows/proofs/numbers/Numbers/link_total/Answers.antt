use Rattle.std.proofs.Common.{◌≡◌, ◌<◌, ℤ, pos, ap, sym, ◌∙◌, arith, length, subst, get_or, Ok, rules}
use Rattle.std.specs.Prelude.{◌+ℤ◌, FitsSigned}
use Rattle.std.specs.Int.{w128}
use Rattle.std.proofs.lemmas.Int.{ints, clamps, to_z-of_z}
use Rattle.std.proofs.lemmas.Grind.{common_steps}
use mir.Val.{to_z, of_z}
use Rattle.row_laws.specs.Rows.{Across}
use Rattle.row_laws.specs.Exact.{add_up, link_term_at}
use Rattle.row_laws.specs.declared.bound.Entry.TheVariants.{TotalLink}
use Rattle.bound_rows.specs.Scratch.{Numbers, IsAt, HasRoom}
use Rattle.bound_rows.proofs.TotalLemmas.{add_next, add_stop, add_end}
use Rattle.bound_rows.proofs.numbers.Numbers.link_total.Goals as goal

pub returns-in-None : goal.returns-in-None
returns-in-None c = λ f h.
    let l = c.loop-link.link in
    let view : c.args.self.now ≡ record { choices = c.self.inside.choices.items; links = c.self.inside.links.items } = sym c.self.view_is in
    let room = subst (λ (t : Numbers). HasRoom c.args.problem.now t) view c.requires.room in
    let at = subst (λ (t : Numbers). IsAt c.args.problem.now f t) view h in
    let end = c.link_count-link-end.ensures.value in
    let test = c.loop-link-test.true in
    let below : l < length c.args.problem.now.links = omega arith in
    let within : l < length c.self.inside.links.items = omega (arith, room.1) in
    let read : c.index.result.now ≡ get_or c.self.inside.links.items l (pos 0) = grind (arith, common_steps) in
    let here : get_or c.self.inside.links.items l (pos 0) ≡ f (Across l) = at.links l below in
    let lesser = c.min-number.ensures.value in
    let is : c.min-number.result ≡ link_term_at f l = omega (arith, ints, clamps) in
    let fits : FitsSigned w128 c.min-number.result = search rules in
    let passed = to_z-of_z w128 c.args.areas c.ranges.areas in
    add_stop (λ m. TotalLink m) (link_term_at f) _ l (length c.args.problem.now.links) _ _ (c.loop-link.invariant f h) (to_z-of_z w128 c.min-number.result fits ∙ is) c.in-None.ensures below
    ∙ ap (λ z. add_up (λ m. TotalLink m) (link_term_at f) z (length c.args.problem.now.links)) passed

pub loop-link-preserved : goal.loop-link-preserved
loop-link-preserved c = λ f h.
    let l = c.loop-link.link in
    let view : c.args.self.now ≡ record { choices = c.self.inside.choices.items; links = c.self.inside.links.items } = sym c.self.view_is in
    let room = subst (λ (t : Numbers). HasRoom c.args.problem.now t) view c.requires.room in
    let at = subst (λ (t : Numbers). IsAt c.args.problem.now f t) view h in
    let end = c.link_count-link-end.ensures.value in
    let test = c.loop-link-test.true in
    let below : l < length c.args.problem.now.links = omega arith in
    let within : l < length c.self.inside.links.items = omega (arith, room.1) in
    let read : c.index.result.now ≡ get_or c.self.inside.links.items l (pos 0) = grind (arith, common_steps) in
    let here : get_or c.self.inside.links.items l (pos 0) ≡ f (Across l) = at.links l below in
    let lesser = c.min-number.ensures.value in
    let is : c.min-number.result ≡ link_term_at f l = omega (arith, ints, clamps) in
    let fits = c.in-Some.ensures.0 in
    let sum = c.in-Some.ensures.1 in
    let value : to_z w128 (of_z w128 c.in-Some.sum) ≡ to_z w128 c.loop-link.total-bits +ℤ c.min-number.result = omega (arith, ints) in
    ap (λ (z : ℤ). Ok z) value ∙ add_next (λ m. TotalLink m) (link_term_at f) _ l _ _ (c.loop-link.invariant f h) is (omega (arith, ints))

pub returns : goal.returns
returns c = λ f h.
    let end = c.link_count-link-end.ensures.value in
    add_end (λ l. TotalLink l) (link_term_at f) _ c.loop-link.link (length c.args.problem.now.links) _ (c.loop-link.invariant f h) (omega arith)
    ∙ ap (λ z. add_up (λ m. TotalLink m) (link_term_at f) z (length c.args.problem.now.links)) (to_z-of_z w128 c.args.areas c.ranges.areas)
