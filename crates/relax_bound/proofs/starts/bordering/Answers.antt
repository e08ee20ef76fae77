use Rattle.std.proofs.Common.{rules, ◌∙◌, ◌*ℤ◌, pos, ap}
use Rattle.std.specs.Prelude.{FitsSigned}
use Rattle.std.specs.Int.{w128}
use lib.IntN.{*ℤ_comm}
use Rattle.agg_model.specs.Problem.{length_of}
use Rattle.agg_model.specs.declared.problem.Link.{Link}
use Rattle.agg_model.proofs.CostLemmas.{product_of, product_read, IsProduct, IsRead}
use Rattle.bound_rows.proofs.StartLemmas.{one_length}
use Rattle.relax_bound.proofs.starts.bordering.Goals as goal

small : (c : goal.After-struct_told-1) → IsProduct (length_of c.args.problem.now c.args.link) c.border.result (length_of c.args.problem.now c.args.link *ℤ pos c.border.result)
small c =
    let one = one_length c.args.problem.now c.link.ensures.rules c.args.link c.requires in
    product_of (length_of c.args.problem.now c.args.link) c.border.result one.0 one.1 c.border.ensures.cheap

read : (c : goal.After-struct_told-1) → IsRead c.link.result.length c.from.result (length_of c.args.problem.now c.args.link *ℤ pos c.border.result)
read c =
    let f : FitsSigned w128 c.link.result.length = search rules in
    let g : FitsSigned w128 c.from.result = search rules in
    product_read _ _ _ _ f g (ap (λ (x : Link). x.length) c.link.ensures.value) c.from.ensures (small c).fits

pub overflow_mul-result : goal.overflow_mul-result
overflow_mul-result c = (read c).fits

pub returns : goal.returns
returns c =
    (read c).value ∙ (ap (λ n. length_of c.args.problem.now c.args.link *ℤ pos n) c.border.ensures.value ∙ *ℤ_comm (length_of c.args.problem.now c.args.link) (pos c.args.problem.now.border))
