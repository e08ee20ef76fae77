use Rattle.std.proofs.Common.{◌≤◌, ◌*◌, ◌^◌, arith, mul-le-mul}
use Rattle.area_graph.proofs.lengths.square_of.Goals as goal

pub returns-clause-within : goal.returns-clause-within
returns-clause-within c =
    let f : c.from.result ≤ 100 = grind arith in
    let g : c.unsigned_abs.result ≤ 2 ^ 31 = grind arith in
    let p : c.from.result * c.unsigned_abs.result ≤ 100 * 2 ^ 31 = mul-le-mul f g in
    let q : (c.from.result * c.unsigned_abs.result) * (c.from.result * c.unsigned_abs.result) ≤ (100 * 2 ^ 31) * (100 * 2 ^ 31) = mul-le-mul p p in
    omega (arith, q)
