use Rattle.std.proofs.Common.{◌^◌, lit<, FitsSigned}
use Rattle.std.specs.Int.{w128}
use Rattle.std.proofs.lemmas.Int.{to_z-of_z, fits_signed_mul}
use Rattle.edge_rows.proofs.sides.product.Goals as goal

pub returns : goal.returns
returns c =
    let fp : FitsSigned w128 c.args.place = c.ranges.place in
    let fr : FitsSigned w128 c.args.rise = c.ranges.rise in
    let f = fits_signed_mul w128 c.args.place c.args.rise (2 ^ 63) (2 ^ 31) c.requires.place_within c.requires.rise_within (lit< tt) in
    simp to_z-of_z
