use Rattle.std.proofs.Common.{◌≡◌, FitsSigned, unsigned_abs}
use Rattle.std.specs.Int.{IsGcd, w128}
use Rattle.std.proofs.lemmas.Int.{to_z-of_z}
use Rattle.plane_edge.proofs.LowestLemmas.{common}
use Rattle.plane_edge.proofs.meeting.greatest_common.Goals as goal

pub returns : goal.returns
returns c =
    let fx : FitsSigned w128 c.args.x = c.ranges.x in
    let fy : FitsSigned w128 c.args.y = c.ranges.y in
    let fm : FitsSigned w128 c.args.m = c.ranges.m in
    let ex : c.unsigned_abs.result ≡ unsigned_abs c.args.x = simp to_z-of_z at c.unsigned_abs.ensures.value in
    let ey : c.unsigned_abs-2.result ≡ unsigned_abs c.args.y = simp to_z-of_z at c.unsigned_abs-2.ensures.value in
    let em : c.unsigned_abs-3.result ≡ unsigned_abs c.args.m = simp to_z-of_z at c.unsigned_abs-3.ensures.value in
    let p : IsGcd (unsigned_abs c.args.x) (unsigned_abs c.args.y) c.gcd-across.result = simp (ex, ey) at c.gcd-across.ensures in
    let q : IsGcd c.gcd-across.result (unsigned_abs c.args.m) c.gcd.result = simp em at c.gcd.ensures in
    common c.args.x c.args.y c.args.m c.gcd-across.result c.gcd.result p q c.requires.real
