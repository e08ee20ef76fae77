use Rattle.std.proofs.Common.{◌∙◌, ap, sym, ◌+ℤ◌, to_z, of_z, Some, ℤ, Option}
use Rattle.std.specs.Int.{w128}
use Rattle.std.proofs.lemmas.Int.{to_z-of_z}
use Rattle.area_graph.specs.Steps.{longer}
use Rattle.area_graph.proofs.BorderLemmas.{sum_fits, small_fits}
use Rattle.area_graph.proofs.borders.longer_by.Goals as goal

pub overflow_add-result : goal.overflow_add-result
overflow_add-result c =
    let s = c.requires.small c.in-Some.sum c.in-Some.is in
    let a = to_z-of_z w128 c.in-Some.sum (small_fits c.in-Some.sum s) in
    let b = to_z-of_z w128 c.args.length c.ranges.length in
    rw (a, b) (sum_fits c.in-Some.sum c.args.length s c.requires.short)

pub returns-in-Some : goal.returns-in-Some
returns-in-Some c =
    let s = c.requires.small c.in-Some.sum c.in-Some.is in
    let a = to_z-of_z w128 c.in-Some.sum (small_fits c.in-Some.sum s) in
    let b = to_z-of_z w128 c.args.length c.ranges.length in
    let all = to_z-of_z w128 (c.in-Some.sum +ℤ c.args.length) (sum_fits c.in-Some.sum c.args.length s c.requires.short) in
    ap (λ z. Some (to_z w128 (of_z w128 (z +ℤ to_z w128 (of_z w128 c.args.length))))) a
    ∙ ap (λ z. Some (to_z w128 (of_z w128 (c.in-Some.sum +ℤ z)))) b
    ∙ ap (λ z. Some z) all
    ∙ sym (ap (λ (o : Option ℤ). longer o c.args.length) c.in-Some.is)
