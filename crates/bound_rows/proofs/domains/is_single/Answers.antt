use Rattle.std.proofs.Common.{arith}
use Rattle.bound_rows.proofs.MaskLemmas.{single_law}
use Rattle.bound_rows.proofs.domains.is_single.Goals as goal

pub returns-then-set-ne0 : goal.returns-then-set-ne0
returns-then-set-ne0 c =
    let some = c.if-set-ne0.true in
    single_law c.args.set (omega arith) c.ranges.set.fits
