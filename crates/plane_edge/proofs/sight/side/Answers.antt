use Rattle.std.proofs.Common.{rules, ◌≡◌, FitsSigned, w32}
use Rattle.std.specs.Int.{w128}
use Rattle.std.proofs.lemmas.Int.{to_z-of_z}
use Rattle.plane_edge.specs.Plane.{side_of}
use Rattle.plane_edge.proofs.sight.side.Goals as goal

pub returns : goal.returns
returns c =
    let f : FitsSigned w128 c.sum_of_products.result = record { sfits = c.sum_of_products.type_inv } in
    let f1 : FitsSigned w128 c.difference-left.result = record { sfits = c.difference-left.type_inv } in
    let f2 : FitsSigned w128 c.difference-up.result = record { sfits = c.difference-up.type_inv } in
    let f3 : FitsSigned w128 c.gap-rise.result = record { sfits = c.gap-rise.type_inv } in
    let f4 : FitsSigned w128 c.gap-run.result = record { sfits = c.gap-run.type_inv } in
    let f5 : FitsSigned w128 c.scale.result = record { sfits = c.scale.type_inv } in
    let f6 : FitsSigned w128 c.scale-2.result = record { sfits = c.scale-2.type_inv } in
    let edge = c.args.edge.now in
    let spot = c.args.spot.now in
    let g1 : FitsSigned w32 edge.low.x = search rules in
    let g2 : FitsSigned w32 edge.low.y = search rules in
    let g3 : FitsSigned w32 edge.high.x = search rules in
    let g4 : FitsSigned w32 edge.high.y = search rules in
    let h1 : FitsSigned w128 spot.x = search rules in
    let h2 : FitsSigned w128 spot.y = search rules in
    let h3 : FitsSigned w128 spot.m = search rules in
    let e = simp to_z-of_z at c.sum_of_products.ensures.value in
    let e1 = simp to_z-of_z at c.difference-left.ensures.value in
    let e2 = simp to_z-of_z at c.difference-up.ensures.value in
    let e3 = simp to_z-of_z at c.gap-rise.ensures.value in
    let e4 = simp to_z-of_z at c.gap-run.ensures.value in
    let e5 = simp to_z-of_z at c.scale.ensures.value in
    let e6 = simp to_z-of_z at c.scale-2.ensures.value in
    let k : c.sum_of_products.result ≡ side_of edge spot = simp (e, e1, e2, e3, e4, e5, e6) in
    simp to_z-of_z k
