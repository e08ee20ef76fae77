use Rattle.bound_rows.proofs.MaskLemmas.{less_class}
use Rattle.bound_rows.proofs.domains.less.Goals as goal

pub returns : goal.returns
returns c = λ j. less_class c.args.set c.args.class j c.ranges.set.fits c.requires
