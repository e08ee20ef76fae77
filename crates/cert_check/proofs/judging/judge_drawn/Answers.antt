use Rattle.std.proofs.Common.{◌∙◌, ap, arith}
use Rattle.std.specs.Option.{option_copied}
use Rattle.cert_check.proofs.VerdictLemmas.{one_region_each}
use Rattle.cert_check.proofs.judging.judge_drawn.Goals as goal

pub judge_grouping-requires-clause-areas : goal.judge_grouping-requires-clause-areas
judge_grouping-requires-clause-areas c =
    one_region_each c.args.certificate.now (option_copied c.args.drawn) c.in-Some.drawn.now c.requires.spelling c.requires.drawn (ap option_copied c.in-Some.is) ∙ c.requires.areas

pub judge_grouping-requires-clause-few_areas : goal.judge_grouping-requires-clause-few_areas
judge_grouping-requires-clause-few_areas c =
    let stated = c.requires.spelling.areas in
    let same = c.requires.areas in
    omega arith
