use Rattle.std.proofs.Common.{rules, refl}
use Rattle.std.specs.Prelude.{FitsSigned}
use Rattle.std.specs.Int.{w128}
use Rattle.bound_rows.proofs.StartLemmas.{times_read}
use Rattle.bound_rows.proofs.numbers.times.Goals as goal

pub returns : goal.returns
returns c =
    let g : FitsSigned w128 c.from.result = search rules in
    times_read c.args.cost c.from.result c.args.cost c.args.factor c.ranges.cost g refl c.from.ensures c.requires.least c.requires.most c.requires.few
