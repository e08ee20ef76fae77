use Rattle.std.proofs.Common.{rules, ◌≡◌, FitsSigned, pos, ◌*ℤ◌, ◌^◌}
use Rattle.std.specs.Int.{w128}
use Rattle.std.proofs.lemmas.Int.{to_z-of_z}
use Rattle.plane_edge.specs.declared.spot.Spot.{Spot}
use Rattle.plane_edge.specs.Plane.{IsCommon}
use Rattle.plane_edge.proofs.LowestLemmas.{lowest_is, lowest_same, lowest_real, lowest_fine}
use Rattle.plane_edge.proofs.meeting.lowest.Goals as goal

pub returns : goal.returns
returns c =
    let spot = c.args.spot.now in
    let g = c.greatest_common-common.result in
    let fx : FitsSigned w128 spot.x = search rules in
    let fy : FitsSigned w128 spot.y = search rules in
    let fm : FitsSigned w128 spot.m = search rules in
    let gx : FitsSigned w128 c.quotient-x.result = record { sfits = c.quotient-x.type_inv } in
    let gy : FitsSigned w128 c.quotient-y.result = record { sfits = c.quotient-y.type_inv } in
    let gm : FitsSigned w128 c.quotient-m.result = record { sfits = c.quotient-m.type_inv } in
    let k : IsCommon spot.x spot.y spot.m g = simp to_z-of_z at c.greatest_common-common.ensures in
    let ex : c.quotient-x.result *ℤ pos g ≡ spot.x = simp to_z-of_z at c.quotient-x.ensures in
    let ey : c.quotient-y.result *ℤ pos g ≡ spot.y = simp to_z-of_z at c.quotient-y.ensures in
    let em : c.quotient-m.result *ℤ pos g ≡ spot.m = simp to_z-of_z at c.quotient-m.ensures in
    let low : Spot = record { x = c.quotient-x.result; y = c.quotient-y.result; m = c.quotient-m.result } in
    record {
      same = simp to_z-of_z (lowest_same spot low g ex ey em);
      real = simp to_z-of_z (lowest_real spot.m low.m g k.positive em c.requires.real);
      fine = simp to_z-of_z (lowest_fine spot.m low.m g (2 ^ 63) k.positive em c.requires.fine);
      is_lowest = simp to_z-of_z (lowest_is spot low g k ex ey em);
    }
