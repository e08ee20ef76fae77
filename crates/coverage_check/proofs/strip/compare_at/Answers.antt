use Rattle.std.proofs.Common.{◌≡◌, ap, ◌∙◌, rules, is_lt, int_cmp, int_lt, pos, ◌-ℤ◌, ◌*ℤ◌, FitsSigned, w32}
use Rattle.std.specs.Int.{w128}
use Rattle.std.proofs.lemmas.Int.{to_z-of_z}
use Rattle.plane_edge.specs.Plane.{rise}
use Rattle.plane_strip.specs.Strip.{place}
use Rattle.coverage_check.proofs.ActiveLemmas.{less_test}
use Rattle.coverage_check.proofs.strip.compare_at.Goals as goal

pub returns : goal.returns
returns c =
    let b = c.args.b.now.edge in
    let d = c.args.c.now.edge in
    let y = c.args.twice in
    let ft : FitsSigned w128 y = c.ranges.twice in
    let b0 : FitsSigned w32 b.low.y = search rules in
    let b1 : FitsSigned w32 b.high.y = search rules in
    let d0 : FitsSigned w32 d.low.y = search rules in
    let d1 : FitsSigned w32 d.high.y = search rules in
    let f0 : FitsSigned w128 c.place_at.result = record { sfits = c.place_at.type_inv } in
    let f1 : FitsSigned w128 c.gap.result = record { sfits = c.gap.type_inv } in
    let f2 : FitsSigned w128 c.product-left.result = record { sfits = c.product-left.type_inv } in
    let f3 : FitsSigned w128 c.place_at-2.result = record { sfits = c.place_at-2.type_inv } in
    let f4 : FitsSigned w128 c.gap-2.result = record { sfits = c.gap-2.type_inv } in
    let f5 : FitsSigned w128 c.product-right.result = record { sfits = c.product-right.type_inv } in
    let e0 : c.place_at.result ≡ place b y (pos 2) = simp to_z-of_z at c.place_at.ensures.value in
    let e1 : c.gap.result ≡ rise d = simp to_z-of_z at c.gap.ensures.value in
    let e2 : c.product-left.result ≡ c.place_at.result *ℤ c.gap.result = simp to_z-of_z at c.product-left.ensures in
    let e3 : c.place_at-2.result ≡ place d y (pos 2) = simp to_z-of_z at c.place_at-2.ensures.value in
    let e4 : c.gap-2.result ≡ rise b = simp to_z-of_z at c.gap-2.ensures.value in
    let e5 : c.product-right.result ≡ c.place_at-2.result *ℤ c.gap-2.result = simp to_z-of_z at c.product-right.ensures in
    let e6 : c.cmp.result ≡ int_cmp c.product-left.result c.product-right.result = simp to_z-of_z at c.cmp.ensures in
    let left : c.product-left.result ≡ place b y (pos 2) *ℤ rise d = e2 ∙ ap (λ z. z *ℤ c.gap.result) e0 ∙ ap (λ z. place b y (pos 2) *ℤ z) e1 in
    let right : c.product-right.result ≡ place d y (pos 2) *ℤ rise b = e5 ∙ ap (λ z. z *ℤ c.gap-2.result) e3 ∙ ap (λ z. place d y (pos 2) *ℤ z) e4 in
    ap is_lt e6 ∙ less_test c.product-left.result c.product-right.result
    ∙ ap (λ z. int_lt (pos 0) (c.product-right.result -ℤ z)) left ∙ ap (λ z. int_lt (pos 0) (z -ℤ place b y (pos 2) *ℤ rise d)) right
