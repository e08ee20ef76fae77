use Rattle.std.proofs.Common.{◌≡◌, ◌∙◌, sym, ap, arith, subst, pos, ◌+ℤ◌, ◌-ℤ◌, ◌*ℤ◌, ◌<ℤ◌, FitsSigned, w32}
use Rattle.std.specs.Int.{w128}
use Rattle.std.proofs.lemmas.Int.{to_z-of_z}
use Rattle.whole_ring.proofs.Signs.{lin, pos-mul}
use Rattle.plane_edge.specs.Plane.{rise, along, Same}
use Rattle.plane_edge.specs.declared.spot.Spot.{Spot}
use Rattle.coverage_check.specs.Strips.{mid_of}
use Rattle.coverage_check.proofs.overlap.middle_spot.Goals as goal

pub lowest-requires-clause-real : goal.lowest-requires-clause-real
lowest-requires-clause-real c =
    let e = c.args.border.now.edge in
    let f0 : FitsSigned w128 c.twice_rise.result = record { sfits = c.twice_rise.type_inv } in
    let f1 : FitsSigned w128 c.twice_above-above.result = record { sfits = c.twice_above-above.type_inv } in
    let r : c.twice_rise.result ≡ rise e *ℤ pos 2 = c.twice_rise.ensures.value in
    let k : c.spot_along.result ≡ along e c.twice_above-above.result c.twice_rise.result = simp to_z-of_z at c.spot_along.ensures in
    let m : c.spot_along.result.m ≡ rise e *ℤ pos 2 = ap (λ (s : Spot). s.m) k ∙ r in
    subst (λ z. pos 0 <ℤ z) (sym m) (pos-mul (rise e) (pos 2) (omega (arith, lin, c.args.border.now.steep)) (omega (arith, lin)))

pub returns-clause-same : goal.returns-clause-same
returns-clause-same c =
    let e = c.args.border.now.edge in
    let fl : FitsSigned w32 c.args.low = c.ranges.low in
    let fh : FitsSigned w32 c.args.high = c.ranges.high in
    let f0 : FitsSigned w128 c.twice_rise.result = record { sfits = c.twice_rise.type_inv } in
    let f1 : FitsSigned w128 c.twice_above-above.result = record { sfits = c.twice_above-above.type_inv } in
    let f2 : FitsSigned w128 c.twice_middle.result = record { sfits = c.twice_middle.type_inv } in
    let r : c.twice_rise.result ≡ rise e *ℤ pos 2 = c.twice_rise.ensures.value in
    let t : c.twice_middle.result ≡ c.args.low +ℤ c.args.high = simp to_z-of_z at c.twice_middle.ensures.value in
    let a : c.twice_above-above.result ≡ c.twice_middle.result -ℤ e.low.y *ℤ pos 2 = simp to_z-of_z at c.twice_above-above.ensures.value in
    let k : c.spot_along.result ≡ along e c.twice_above-above.result c.twice_rise.result = simp to_z-of_z at c.spot_along.ensures in
    let w : c.spot_along.result ≡ mid_of c.args.low c.args.high e = k ∙ ap (λ z. along e z c.twice_rise.result) (a ∙ ap (λ z. z -ℤ e.low.y *ℤ pos 2) t) ∙ ap (λ z. along e ((c.args.low +ℤ c.args.high) -ℤ e.low.y *ℤ pos 2) z) r in
    subst (λ (s : Spot). Same s c.lowest.result) w c.lowest.ensures.same
