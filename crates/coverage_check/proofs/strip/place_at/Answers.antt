use Rattle.std.proofs.Common.{◌≡◌, ◌≤◌, ◌^◌, ◌∙◌, ap, rules, pos, unsigned_abs, ◌+ℤ◌, ◌-ℤ◌, ◌*ℤ◌, FitsSigned}
use Rattle.std.specs.Int.{w128}
use Rattle.std.proofs.lemmas.Int.{to_z-of_z}
use Rattle.plane_edge.specs.declared.spot.Spot.{Spot}
use Rattle.plane_edge.specs.Plane.{along, rise, run}
use Rattle.coverage_check.proofs.ActiveLemmas.{place_within}
use Rattle.coverage_check.proofs.strip.place_at.Goals as goal

pub returns-clause-value : goal.returns-clause-value
returns-clause-value c =
    let e = c.args.edge.now in
    let y = c.args.twice in
    let ft : FitsSigned w128 y = c.ranges.twice in
    let f0 : FitsSigned w128 c.twice_rise.result = record { sfits = c.twice_rise.type_inv } in
    let f1 : FitsSigned w128 c.twice_above.result = record { sfits = c.twice_above.type_inv } in
    let f2 : FitsSigned w128 c.spot_along.result.x = search rules in
    let k : c.spot_along.result ≡ along e c.twice_above.result c.twice_rise.result = simp to_z-of_z at c.spot_along.ensures in
    let a : c.twice_above.result ≡ y -ℤ e.low.y *ℤ pos 2 = simp to_z-of_z at c.twice_above.ensures.value in
    let r : c.twice_rise.result ≡ rise e *ℤ pos 2 = c.twice_rise.ensures.value in
    simp to_z-of_z (ap (λ (s : Spot). s.x) k ∙ ap (λ z. e.low.x *ℤ z +ℤ c.twice_above.result *ℤ run e) r ∙ ap (λ z. e.low.x *ℤ (rise e *ℤ pos 2) +ℤ z *ℤ run e) a)

pub returns-clause-within : goal.returns-clause-within
returns-clause-within c =
    let e = c.args.edge.now in
    let f0 : FitsSigned w128 c.twice_rise.result = record { sfits = c.twice_rise.type_inv } in
    let f1 : FitsSigned w128 c.twice_above.result = record { sfits = c.twice_above.type_inv } in
    let f2 : FitsSigned w128 c.spot_along.result.x = search rules in
    let k : c.spot_along.result ≡ along e c.twice_above.result c.twice_rise.result = simp to_z-of_z at c.spot_along.ensures in
    let x = ap (λ (s : Spot). unsigned_abs s.x) k in
    let w = place_within e c.twice_above.result c.twice_rise.result c.twice_above.ensures.within c.twice_rise.ensures.within in
    let h : unsigned_abs c.spot_along.result.x ≤ 2 ^ 64 = rw x w in
    simp to_z-of_z h
