use Rattle.std.proofs.Common.{rules, ◌*ℤ◌, ◌+ℤ◌, pos, ap, arith, ◌∙◌, length}
use Rattle.std.proofs.lemmas.Int.{ints}
use Rattle.std.specs.Prelude.{FitsSigned}
use Rattle.std.specs.Int.{w128}
use Rattle.agg_model.specs.Problem.{cost, areas, recolouring_below, border_below}
use Rattle.agg_model.proofs.CostLemmas.{sum_read}
use Rattle.agg_model.proofs.costs.cost.Goals as goal

pub returns : goal.returns
unfolding cost
returns c =
    let p = c.args.problem.now in
    let g = c.args.grouping.now in
    let rec = recolouring_below p g (areas p) in
    let bor = border_below p g (length p.links) in
    let f : FitsSigned w128 c.recolouring.result = search rules in
    let h : FitsSigned w128 c.borders.result = search rules in
    let k : FitsSigned w128 c.from.result = search rules in
    sum_read _ _ _ rec bor c.border.result f h k c.recolouring.ensures.value c.borders.ensures.value c.from.ensures
    (omega (arith, ints, c.recolouring.ensures.least, c.recolouring.ensures.value))
    (omega (arith, ints, c.recolouring.ensures.most, c.recolouring.ensures.value))
    (omega (arith, ints, c.borders.ensures.least, c.borders.ensures.value))
    (omega (arith, ints, c.borders.ensures.most, c.borders.ensures.value))
    c.border.ensures.cheap
    ∙ ap (λ d. rec +ℤ pos d *ℤ bor) c.border.ensures.value
