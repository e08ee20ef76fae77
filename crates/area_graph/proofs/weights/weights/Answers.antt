use Rattle.std.proofs.Common.{arith, subst, sym, ◌≤◌, length, List}
use Rattle.agg_base.specs.declared.limits.TheConstants.{STEPS}
use Rattle.plane_edge.specs.declared.edge.Edge.{Edge}
use Rattle.area_graph.proofs.WeightLemmas.{few_of}
use Rattle.area_graph.proofs.weights.weights.Goals as goal

pub weight_of-requires-clause-few : goal.weight_of-requires-clause-few
weight_of-requires-clause-few c =
    subst (λ (es : List Edge). length es ≤ STEPS) (sym c.odd.ensures) (few_of c.args.checked.now.areas c.loop-area.area STEPS (omega arith) c.areas-area-end.ensures.rules.few_edges)
