use Rattle.std.proofs.Common.{◌≡◌, ℤ, pos, ap, ◌∙◌, arith, Ok, rules}
use Rattle.std.specs.Prelude.{◌+ℤ◌, unwrap_or, FitsSigned}
use Rattle.std.specs.Int.{w128}
use Rattle.std.proofs.lemmas.Int.{ints, to_z-of_z}
use mir.Val.{to_z, of_z}
use Rattle.agg_model.specs.Problem.{areas}
use Rattle.row_laws.specs.Exact.{area_term_at}
use Rattle.row_laws.specs.declared.bound.Entry.TheVariants.{TotalArea}
use Rattle.bound_rows.specs.Domains.{allows}
use Rattle.bound_rows.proofs.TotalLemmas.{add_next, add_stop, add_end}
use Rattle.bound_rows.proofs.numbers.Numbers.area_total.Goals as goal

pub returns-in-None : goal.returns-in-None
returns-in-None c = λ f h.
    let terms = area_term_at c.args.problem.now (allows c.args.domains.now) f in
    let is : c.unwrap_or-least.result ≡ terms c.loop-area.area = c.unwrap_or-least.ensures ∙ ap (λ o. unwrap_or o (pos 0)) (c.least.ensures f h) in
    let end = c.areas-area-end.ensures.value in
    let below = c.loop-area-test.true in
    let fits : FitsSigned w128 c.unwrap_or-least.result = search rules in
    add_stop (λ v. TotalArea v) terms (pos 0) c.loop-area.area (areas c.args.problem.now) _ _ (c.loop-area.invariant f h) (to_z-of_z w128 c.unwrap_or-least.result fits ∙ is) c.in-None.ensures (omega arith)

pub loop-area-preserved : goal.loop-area-preserved
loop-area-preserved c = λ f h.
    let terms = area_term_at c.args.problem.now (allows c.args.domains.now) f in
    let is : c.unwrap_or-least.result ≡ terms c.loop-area.area = c.unwrap_or-least.ensures ∙ ap (λ o. unwrap_or o (pos 0)) (c.least.ensures f h) in
    let fits = c.in-Some.ensures.0 in
    let sum = c.in-Some.ensures.1 in
    let value : to_z w128 (of_z w128 c.in-Some.sum) ≡ to_z w128 c.loop-area.total-bits +ℤ c.unwrap_or-least.result = omega (arith, ints) in
    ap (λ (z : ℤ). Ok z) value ∙ add_next (λ v. TotalArea v) terms (pos 0) c.loop-area.area _ _ (c.loop-area.invariant f h) is (omega (arith, ints))

pub returns : goal.returns
returns c = λ f h.
    let end = c.areas-area-end.ensures.value in
    add_end (λ v. TotalArea v) (area_term_at c.args.problem.now (allows c.args.domains.now) f) (pos 0) c.loop-area.area (areas c.args.problem.now) _ (c.loop-area.invariant f h) (omega arith)
