-- How long an edge can be.
use Rattle.std.proofs.Common.{◌≡◌, ℕ, ◌+◌, ◌*◌, ◌^◌, ◌≤◌, ◌⊎◌, inl, inr, arith, mul-le-mul, unsigned_abs, FitsSigned, ℤ, ◌-ℤ◌, to_z, of_z, w32, ap, ◌∙◌}
use Rattle.std.proofs.lemmas.Int.{to_z-of_z}
use Rattle.whole_ring.proofs.Signs.{within}
use Rattle.plane_edge.specs.Coordinate.{IsCoordinate}
use Rattle.agg_base.specs.Root.{IsRoot}
use Rattle.agg_base.proofs.RootLemmas.{root_is_greatest}
use Rattle.plane_edge.specs.declared.edge.Edge.{Edge}
use Rattle.plane_edge.specs.Plane.{run, rise}
use Rattle.area_graph.specs.Lengths.{stretched, edge_length}

-- a square that is small has a small side
pub small_root : (n r : ℕ) → n ≤ 2 ^ 94 → IsRoot n r → r ≤ 2 ^ 47
small_root n r h k = go (split r (2 ^ 47))
  where
    split : (a b : ℕ) → (a ≤ b) ⊎ (b + 1 ≤ a)
    split a b = grind arith

    go : (r ≤ 2 ^ 47) ⊎ (2 ^ 47 + 1 ≤ r) → r ≤ 2 ^ 47
    go (inl s) = s
    go (inr s) =
        let m : (2 ^ 47 + 1) * (2 ^ 47 + 1) ≤ r * r = mul-le-mul s s in
        let f : r * r ≤ n = k.fits in
        absurd (omega (arith, m, f, h))

coordinate_fits : (a : ℤ) → IsCoordinate a → FitsSigned w32 a
coordinate_fits a h = omega (arith, within, h.least, h.most)

pub gap_is : (a b : ℤ) → IsCoordinate a → IsCoordinate b → to_z w32 (of_z w32 a) -ℤ to_z w32 (of_z w32 b) ≡ a -ℤ b
gap_is a b h k =
    ap (λ z. z -ℤ to_z w32 (of_z w32 b)) (to_z-of_z w32 a (coordinate_fits a h)) ∙ ap (λ z. a -ℤ z) (to_z-of_z w32 b (coordinate_fits b k))

stretched_small : (factor : ℕ) (a b : ℤ) → factor ≤ 100 → IsCoordinate a → IsCoordinate b → stretched factor (a -ℤ b) ≤ 2 ^ 76
stretched_small factor a b f h k =
    let g : unsigned_abs (a -ℤ b) ≤ 2 ^ 31 = omega (arith, within, h.least, h.most, k.least, k.most) in
    let p : factor * unsigned_abs (a -ℤ b) ≤ 100 * 2 ^ 31 = mul-le-mul f g in
    let q : (factor * unsigned_abs (a -ℤ b)) * (factor * unsigned_abs (a -ℤ b)) ≤ (100 * 2 ^ 31) * (100 * 2 ^ 31) = mul-le-mul p p in
    omega (arith, q)

pub edge_length_small : (wide high : ℕ) (e : Edge) → wide ≤ 100 → high ≤ 100 → edge_length wide high e ≤ 2 ^ 47
edge_length_small wide high e w h =
    let a = stretched_small wide e.high.x e.low.x w e.high.x_in_range e.low.x_in_range in
    let b = stretched_small high e.high.y e.low.y h e.high.y_in_range e.low.y_in_range in
    small_root (65536 * (stretched wide (run e) + stretched high (rise e))) (edge_length wide high e) (omega (arith, a, b)) (root_is_greatest (65536 * (stretched wide (run e) + stretched high (rise e))))
