use Rattle.std.proofs.Common.{rules, ◌*ℤ◌, ◌+ℤ◌, pos, ap, arith, ◌∙◌, length, ℕ, slice_index}
use Rattle.std.proofs.lemmas.Int.{ints}
use Rattle.std.specs.Prelude.{FitsSigned, not}
use Rattle.std.specs.Int.{w128}
use Rattle.agg_model.specs.Problem.{areas, recolouring, length_of}
use Rattle.whole_ring.specs.Sums.{sum_below, when}
use Rattle.row_laws.specs.Fixed.{is_same_kind}
use Rattle.agg_model.proofs.CostLemmas.{sum_read}
use Rattle.fixed_value.proofs.costs.cost_of.Goals as goal

pub returns : goal.returns
returns c =
    let p = c.args.problem.now in
    let kind : ℕ → ℕ = λ v. slice_index c.args.kinds.now v in
    let rec = sum_below (areas p) (λ v. recolouring p v (kind v)) in
    let bor = sum_below (length p.links) (λ l. when (not (is_same_kind p kind l)) (length_of p l)) in
    let f : FitsSigned w128 c.recolouring.result = search rules in
    let h : FitsSigned w128 c.borders.result = search rules in
    let k : FitsSigned w128 c.from.result = search rules in
    sum_read _ _ _ rec bor c.border.result f h k c.recolouring.ensures.value c.borders.ensures.value c.from.ensures
    (omega (arith, ints, c.recolouring.ensures.least, c.recolouring.ensures.value))
    (omega (arith, ints, c.recolouring.ensures.most, c.recolouring.ensures.value))
    (omega (arith, ints, c.borders.ensures.least, c.borders.ensures.value))
    (omega (arith, ints, c.borders.ensures.most, c.borders.ensures.value))
    c.border.ensures.cheap
    ∙ ap (λ d. rec +ℤ pos d *ℤ bor) c.border.ensures.value
