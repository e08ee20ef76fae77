use Rattle.std.proofs.Common.{pos, ◌+ℤ◌, ◌*ℤ◌, FitsSigned, w32, [], ◌∷◌, refl, ◌∙◌, ap}
use Rattle.std.specs.Int.{w128}
use Rattle.std.proofs.lemmas.Int.{to_z-of_z}
use Rattle.whole_ring.proofs.Ring.{ring, var, con, ◌⊕◌, ◌⊗◌}
use Rattle.plane_edge.proofs.wide.place_along.Goals as goal

pub returns : goal.returns
returns c =
    let f0 : FitsSigned w32 c.args.low = c.ranges.low in
    let f1 : FitsSigned w128 c.args.m = c.ranges.m in
    let f2 : FitsSigned w128 c.args.part = c.ranges.part in
    let f3 : FitsSigned w128 c.args.gap = c.ranges.gap in
    let f4 : FitsSigned w128 c.scale-start.result = record { sfits = c.scale-start.type_inv } in
    let f5 : FitsSigned w128 c.sum_of_products.result = record { sfits = c.sum_of_products.type_inv } in
    let start = simp to_z-of_z at c.scale-start.ensures.value in
    let total = simp to_z-of_z at c.sum_of_products.ensures.value in
    let same = ring (c.scale-start.result ∷ c.args.gap ∷ c.args.part ∷ []) (var 0 ⊗ con (pos 1) ⊕ var 1 ⊗ var 2) (var 0 ⊕ var 2 ⊗ var 1) refl in
    simp to_z-of_z (total ∙ same ∙ ap (λ z. z +ℤ c.args.part *ℤ c.args.gap) start)
