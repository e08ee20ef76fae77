use Rattle.std.proofs.Common.{arith, ◌≤◌, ◌^◌, ◌∙◌, ap, ◌+ℤ◌, sym, take, to_z, of_z, unsigned_abs, subst, ℤ}
use Rattle.std.specs.Int.{w128}
use Rattle.std.proofs.lemmas.Int.{to_z-of_z}
use Rattle.area_graph.specs.Weights.{sum_over, signed_term}
use Rattle.area_graph.proofs.WeightLemmas.{part_size, next_size, sum_over-more}
use Rattle.area_graph.proofs.weights.terms.Goals as goal

pub overflow_add-sum : goal.overflow_add-sum
overflow_add-sum c =
    let odd = c.args.odd.now in
    let part = part_size odd c.args.rows.now c.loop-edge.edge-index (omega arith) (omega arith) in
    let size : unsigned_abs (to_z w128 c.loop-edge.sum-bits) ≤ 2 ^ 83 = subst (λ (z : ℤ). unsigned_abs z ≤ 2 ^ 83) (sym c.loop-edge.invariant) part in
    let same = to_z-of_z w128 c.term_of-sum.result (record { sfits = c.term_of-sum.type_inv }) in
    rw same (next_size (to_z w128 c.loop-edge.sum-bits) c.term_of-sum.result size c.term_of-sum.ensures.within)

pub loop-edge-preserved : goal.loop-edge-preserved
loop-edge-preserved c =
    let odd = c.args.odd.now in
    let part = part_size odd c.args.rows.now c.loop-edge.edge-index (omega arith) (omega arith) in
    let size : unsigned_abs (to_z w128 c.loop-edge.sum-bits) ≤ 2 ^ 83 = subst (λ (z : ℤ). unsigned_abs z ≤ 2 ^ 83) (sym c.loop-edge.invariant) part in
    let same = to_z-of_z w128 c.term_of-sum.result (record { sfits = c.term_of-sum.type_inv }) in
    let fits = next_size (to_z w128 c.loop-edge.sum-bits) c.term_of-sum.result size c.term_of-sum.ensures.within in
    let more = sum_over-more (signed_term c.args.rows.now) odd c.loop-edge.edge-index c.edge-item.result (omega arith) in
    ap (λ z. to_z w128 (of_z w128 (to_z w128 c.loop-edge.sum-bits +ℤ z))) same
    ∙ to_z-of_z w128 (to_z w128 c.loop-edge.sum-bits +ℤ c.term_of-sum.result) fits
    ∙ ap (λ z. z +ℤ c.term_of-sum.result) c.loop-edge.invariant
    ∙ ap (λ z. sum_over (signed_term c.args.rows.now) (take c.loop-edge.edge-index odd) +ℤ z) (c.term_of-sum.ensures.value ∙ ap (signed_term c.args.rows.now) c.edge-item.is)
    ∙ sym more

pub returns-clause-within : goal.returns-clause-within
returns-clause-within c =
    let odd = c.args.odd.now in
    let part = part_size odd c.args.rows.now c.loop-edge.edge-index (omega arith) (omega arith) in
    subst (λ (z : ℤ). unsigned_abs z ≤ 2 ^ 83) (sym c.loop-edge.invariant) part
