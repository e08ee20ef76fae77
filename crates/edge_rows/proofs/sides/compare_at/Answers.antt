use Rattle.std.proofs.Common.{◌≡◌, ap, arith, ◌∙◌, is_lt, int_cmp, int_lt, ℤ, pos, ◌-ℤ◌, ◌*ℤ◌, FitsSigned, w32}
use Rattle.std.specs.Int.{w128}
use Rattle.std.proofs.lemmas.Int.{to_z-of_z, ints}
use Rattle.plane_edge.specs.Plane.{rise}
use Rattle.plane_strip.specs.Strip.{place}
use Rattle.edge_rows.proofs.PieceLemmas.{coordinate_fits}
use Rattle.edge_rows.proofs.sides.compare_at.Goals as goal

less_test : (a b : ℤ) → is_lt (int_cmp a b) ≡ int_lt (pos 0) (b -ℤ a)
less_test a b = grind (arith, ints)

pub returns : goal.returns
returns c =
    let e = c.args.e.now in
    let f = c.args.f.now in
    let h = c.args.height in
    let fh : FitsSigned w32 h = c.ranges.height in
    let g0 : FitsSigned w32 e.low.y = coordinate_fits e.low.y e.low.y_in_range in
    let g1 : FitsSigned w32 e.high.y = coordinate_fits e.high.y e.high.y_in_range in
    let g2 : FitsSigned w32 f.low.y = coordinate_fits f.low.y f.low.y_in_range in
    let g3 : FitsSigned w32 f.high.y = coordinate_fits f.high.y f.high.y_in_range in
    let f0 : FitsSigned w128 c.place_at.result = record { sfits = c.place_at.type_inv } in
    let f1 : FitsSigned w128 c.gap.result = record { sfits = c.gap.type_inv } in
    let f2 : FitsSigned w128 c.product-left.result = record { sfits = c.product-left.type_inv } in
    let f3 : FitsSigned w128 c.place_at-2.result = record { sfits = c.place_at-2.type_inv } in
    let f4 : FitsSigned w128 c.gap-2.result = record { sfits = c.gap-2.type_inv } in
    let f5 : FitsSigned w128 c.product-right.result = record { sfits = c.product-right.type_inv } in
    let e0 : c.place_at.result ≡ place e h (pos 1) = simp to_z-of_z at c.place_at.ensures.value in
    let e1 : c.gap.result ≡ rise f = simp to_z-of_z at c.gap.ensures.value in
    let e2 : c.product-left.result ≡ c.place_at.result *ℤ c.gap.result = simp to_z-of_z at c.product-left.ensures in
    let e3 : c.place_at-2.result ≡ place f h (pos 1) = simp to_z-of_z at c.place_at-2.ensures.value in
    let e4 : c.gap-2.result ≡ rise e = simp to_z-of_z at c.gap-2.ensures.value in
    let e5 : c.product-right.result ≡ c.place_at-2.result *ℤ c.gap-2.result = simp to_z-of_z at c.product-right.ensures in
    let e6 : c.cmp.result ≡ int_cmp c.product-left.result c.product-right.result = simp to_z-of_z at c.cmp.ensures in
    let left : c.product-left.result ≡ place e h (pos 1) *ℤ rise f = e2 ∙ ap (λ z. z *ℤ c.gap.result) e0 ∙ ap (λ z. place e h (pos 1) *ℤ z) e1 in
    let right : c.product-right.result ≡ place f h (pos 1) *ℤ rise e = e5 ∙ ap (λ z. z *ℤ c.gap-2.result) e3 ∙ ap (λ z. place f h (pos 1) *ℤ z) e4 in
    ap is_lt e6 ∙ less_test c.product-left.result c.product-right.result
    ∙ ap (λ z. int_lt (pos 0) (c.product-right.result -ℤ z)) left ∙ ap (λ z. int_lt (pos 0) (z -ℤ place e h (pos 1) *ℤ rise f)) right
