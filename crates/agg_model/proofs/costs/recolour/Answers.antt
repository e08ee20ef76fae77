use Rattle.std.proofs.Common.{rules, ◌∙◌, ◌*ℤ◌, pos, ap}
use Rattle.std.specs.Prelude.{FitsSigned}
use Rattle.std.specs.Int.{w128}
use Rattle.agg_model.specs.Problem.{weight_of, distance_of}
use Rattle.agg_model.proofs.CostLemmas.{product_of, one_weight, product_read, IsProduct, IsRead}
use Rattle.agg_model.proofs.costs.recolour.Goals as goal
use Rattle.agg_model.proofs.costs.recolour.Goals.{After-from}

small : (c : goal.After-from) → IsProduct (weight_of c.args.problem.now c.args.area) c.distance.result (weight_of c.args.problem.now c.args.area *ℤ pos c.distance.result)
small c =
    let one = one_weight c.args.problem.now c.weight.ensures.rules c.args.area c.requires.area in
    product_of (weight_of c.args.problem.now c.args.area) c.distance.result one.0 one.1 c.distance.ensures.near

read : (c : goal.After-from) → IsRead c.weight.result c.from.result (weight_of c.args.problem.now c.args.area *ℤ pos c.distance.result)
read c =
    let f : FitsSigned w128 c.weight.result = search rules in
    let g : FitsSigned w128 c.from.result = search rules in
    product_read _ _ _ _ f g c.weight.ensures.value c.from.ensures (small c).fits

pub overflow_mul-result : goal.overflow_mul-result
overflow_mul-result c = (read c).fits

pub returns-clause-value : goal.returns-clause-value
returns-clause-value c =
    (read c).value ∙ ap (λ t. weight_of c.args.problem.now c.args.area *ℤ t) (c.distance.ensures.value ∙ ap (λ k. distance_of c.args.problem.now k c.args.class) c.own.ensures.value)

pub returns-clause-least : goal.returns-clause-least
returns-clause-least c = rw (read c).value (small c).least

pub returns-clause-most : goal.returns-clause-most
returns-clause-most c = rw (read c).value (small c).most
