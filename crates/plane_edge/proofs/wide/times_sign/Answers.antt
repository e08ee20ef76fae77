use Rattle.std.proofs.Common.{◌^◌, lit<, FitsSigned}
use Rattle.std.specs.Int.{w128}
use Rattle.std.proofs.lemmas.Int.{to_z-of_z, fits_signed_mul}
use Rattle.whole_ring.proofs.Sizes.{abs-mul}
use Rattle.plane_edge.proofs.wide.times_sign.Goals as goal

pub overflow_mul-result : goal.overflow_mul-result
overflow_mul-result c =
    let f : FitsSigned w128 c.args.sign = c.ranges.sign in let g : FitsSigned w128 c.args.value = c.ranges.value in
    simp to_z-of_z (fits_signed_mul w128 c.args.sign c.args.value 1 (2 ^ 63) c.requires.is_sign c.requires.value_within (lit< tt))

pub returns : goal.returns
returns c =
    let f : FitsSigned w128 c.args.sign = c.ranges.sign in let g : FitsSigned w128 c.args.value = c.ranges.value in
    let p = fits_signed_mul w128 c.args.sign c.args.value 1 (2 ^ 63) c.requires.is_sign c.requires.value_within (lit< tt) in
    record { value = simp to_z-of_z; within = simp to_z-of_z (abs-mul c.args.sign c.args.value 1 (2 ^ 63) c.requires.is_sign c.requires.value_within) }
