use Rattle.std.proofs.Common.{◌∙◌}
use Rattle.std.specs.Int.{w128}
use Rattle.std.proofs.lemmas.Int.{to_z-of_z}
use Rattle.area_graph.proofs.WeightLemmas.{weight_alike}
use Rattle.area_graph.proofs.weights.weight_of.Goals as goal

pub returns : goal.returns
returns c =
    to_z-of_z w128 c.weight_by.result (record { sfits = c.weight_by.type_inv }) ∙ c.weight_by.ensures
    ∙ weight_alike c.args.unit.wide c.args.unit.high c.in_ok-rows.rows c.args.odd.now c.in_ok-rows.ensures
