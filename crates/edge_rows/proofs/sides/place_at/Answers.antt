use Rattle.std.proofs.Common.{◌≡◌, ◌∙◌, ap, refl, pos, FitsSigned, w32, ◌-ℤ◌, ◌*ℤ◌, [], ◌∷◌}
use Rattle.std.specs.Int.{w128}
use Rattle.std.proofs.lemmas.Int.{to_z-of_z}
use Rattle.whole_ring.proofs.Ring.{ring, var, con, ◌⊕◌, ◌⊖◌, ◌⊗◌}
use Rattle.plane_edge.specs.Plane.{run, rise}
use Rattle.plane_strip.specs.Strip.{place}
use Rattle.edge_rows.proofs.PieceLemmas.{coordinate_fits}
use Rattle.edge_rows.proofs.sides.place_at.Goals as goal

pub returns-clause-value : goal.returns-clause-value
returns-clause-value c =
    let e = c.args.edge.now in
    let h = c.args.height in
    let fh : FitsSigned w32 h = c.ranges.height in
    let fx : FitsSigned w32 e.low.x = coordinate_fits e.low.x e.low.x_in_range in
    let fy : FitsSigned w32 e.low.y = coordinate_fits e.low.y e.low.y_in_range in
    let fu : FitsSigned w32 e.high.x = coordinate_fits e.high.x e.high.x_in_range in
    let fv : FitsSigned w32 e.high.y = coordinate_fits e.high.y e.high.y_in_range in
    let f0 : FitsSigned w128 c.wide.result = record { sfits = c.wide.type_inv } in
    let f1 : FitsSigned w128 c.gap-rise.result = record { sfits = c.gap-rise.type_inv } in
    let f2 : FitsSigned w128 c.gap-run.result = record { sfits = c.gap-run.type_inv } in
    let f3 : FitsSigned w128 c.gap.result = record { sfits = c.gap.type_inv } in
    let f4 : FitsSigned w128 c.minor.result = record { sfits = c.minor.type_inv } in
    let x = simp to_z-of_z at c.wide.ensures.value in
    let r = simp to_z-of_z at c.gap-rise.ensures.value in
    let t = simp to_z-of_z at c.gap-run.ensures.value in
    let u = simp to_z-of_z at c.gap.ensures.value in
    let m = simp to_z-of_z at c.minor.ensures.value in
    let same : e.low.x *ℤ rise e -ℤ run e *ℤ (e.low.y -ℤ h) ≡ place e h (pos 1) =
    ring (e.low.x ∷ e.low.y ∷ run e ∷ rise e ∷ h ∷ []) (var 0 ⊗ var 3 ⊖ var 2 ⊗ (var 1 ⊖ var 4)) (var 0 ⊗ (var 3 ⊗ con (pos 1)) ⊕ (var 4 ⊖ var 1 ⊗ con (pos 1)) ⊗ var 2) refl in
    simp to_z-of_z (m ∙ ap (λ z. z *ℤ c.gap-rise.result -ℤ c.gap-run.result *ℤ c.gap.result) x ∙ ap (λ z. e.low.x *ℤ z -ℤ c.gap-run.result *ℤ c.gap.result) r
    ∙ ap (λ z. e.low.x *ℤ rise e -ℤ z *ℤ c.gap.result) t ∙ ap (λ z. e.low.x *ℤ rise e -ℤ run e *ℤ z) u ∙ same)
