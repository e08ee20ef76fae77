use Rattle.std.proofs.Common.{◌≡◌, ◌∙◌, sym, ap, arith}
use Rattle.row_laws.specs.Rows.{Choice}
use Rattle.row_laws.specs.Values.{least_below, with_class}
use Rattle.bound_rows.specs.Domains.{allows}
use Rattle.bound_rows.proofs.LoweringLemmas.{least_below-more}
use Rattle.bound_rows.proofs.numbers.Numbers.least.Goals as goal

pub loop-class-preserved : goal.loop-class-preserved
loop-class-preserved c = λ f h.
    let step = c.better-best.ensures f h in
    let was = c.loop-class.invariant f h in
    step ∙ (ap (λ b. with_class (allows c.args.domains.now c.args.area) (λ k. f (Choice c.args.area k)) c.loop-class.class b) was ∙ sym (least_below-more (allows c.args.domains.now c.args.area) (λ k. f (Choice c.args.area k)) c.loop-class.class))

pub returns : goal.returns
returns c = λ f h.
    let end : c.loop-class.class ≡ c.args.problem.now.classes = omega arith in
    c.loop-class.invariant f h ∙ ap (λ n. least_below (allows c.args.domains.now c.args.area) (λ k. f (Choice c.args.area k)) n) end
