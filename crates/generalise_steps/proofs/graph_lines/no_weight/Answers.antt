use Rattle.std.proofs.Common.{◌∙◌, FitsSigned}
use Rattle.std.specs.Int.{w128}
use Rattle.std.proofs.lemmas.Int.{to_z-of_z}
use Rattle.generalise_steps.proofs.LineLemmas.{text_is, light_line}
use Rattle.generalise_steps.proofs.graph_lines.no_weight.Goals as goal

pub returns : goal.returns
returns c =
    let fits : FitsSigned w128 c.args.sum = record { sfits = c.ranges.sum.sfits } in
    text_is _ _ _ _ c.of.ensures (c.as_str.ensures.value ∙ (rw to_z-of_z at c.in_ok-format.ensures.ok)) (light_line c.args.area c.args.sum)
