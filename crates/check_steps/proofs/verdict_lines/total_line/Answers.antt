use Rattle.std.proofs.Common.{◌∙◌, FitsSigned}
use Rattle.std.specs.Int.{w128}
use Rattle.std.proofs.lemmas.Int.{to_z-of_z}
use Rattle.generalise_steps.proofs.LineLemmas.{text_is}
use Rattle.check_steps.proofs.FlawLines.{total_line}
use Rattle.check_steps.proofs.verdict_lines.total_line.Goals as goal

pub returns : goal.returns
returns c =
    let fits : FitsSigned w128 c.args.total = record { sfits = c.ranges.total.sfits } in
    text_is _ _ _ _ c.of.ensures (c.as_str.ensures.value ∙ (rw to_z-of_z at c.in_ok-format.ensures.ok)) (total_line c.args.node c.args.total)
