use Rattle.std.proofs.Common.{ap, ◌≡◌, ◌^◌, ◌≤◌, lit<, FitsSigned, unsigned_abs, w32, ◌*ℤ◌}
use Rattle.std.specs.Int.{w128}
use Rattle.std.proofs.lemmas.Int.{to_z-of_z, fits_signed_mul}
use Rattle.whole_ring.proofs.Sizes.{abs-mul}
use Rattle.plane_edge.proofs.Coordinates.{abs-coordinate}
use Rattle.plane_edge.proofs.wide.scale.Goals as goal

pub overflow_mul-result : goal.overflow_mul-result
overflow_mul-result c =
    let fa : FitsSigned w32 c.args.a = c.ranges.a in let fm : FitsSigned w128 c.args.m = c.ranges.m in
    let fr : FitsSigned w128 c.from.result = record { sfits = c.from.type_inv } in
    let e : c.from.result ≡ c.args.a = simp to_z-of_z at c.from.ensures in
    let k : unsigned_abs c.from.result ≤ 2 ^ 30 = rw e (abs-coordinate c.args.a c.requires.in_range) in
    simp to_z-of_z (fits_signed_mul w128 c.from.result c.args.m (2 ^ 30) (2 ^ 63) k c.requires.fine (lit< tt))

pub returns : goal.returns
returns c =
    let fa : FitsSigned w32 c.args.a = c.ranges.a in let fm : FitsSigned w128 c.args.m = c.ranges.m in
    let fr : FitsSigned w128 c.from.result = record { sfits = c.from.type_inv } in
    let e : c.from.result ≡ c.args.a = simp to_z-of_z at c.from.ensures in
    let k : unsigned_abs c.from.result ≤ 2 ^ 30 = rw e (abs-coordinate c.args.a c.requires.in_range) in
    let fp = fits_signed_mul w128 c.from.result c.args.m (2 ^ 30) (2 ^ 63) k c.requires.fine (lit< tt) in
    record { value = simp to_z-of_z (ap (λ x. x *ℤ c.args.m) e); within = simp to_z-of_z (abs-mul c.from.result c.args.m (2 ^ 30) (2 ^ 63) k c.requires.fine) }
