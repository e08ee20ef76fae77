-- Two edges on different lines have at most one common point, which `along` gives.
use Rattle.std.proofs.Common.{◌≡◌, ◌⊎◌, inl, inr, refl, ◌∙◌, ap, arith, IsTrue, [], ◌∷◌, ◌&&◌, ◌||◌, int_lt, int_le, ℤ, pos, ◌+ℤ◌, ◌-ℤ◌, ◌*ℤ◌, ◌≤ℤ◌, ◌<ℤ◌}
use Rattle.std.proofs.lemmas.Int.{ints}
use Rattle.plane_edge.specs.declared.edge.Edge.{Edge}
use Rattle.plane_edge.specs.declared.spot.Spot.{Spot}
use Rattle.plane_edge.specs.Plane.{On, side_of, Same, run, rise, turn, offset, along}
use Rattle.whole_ring.proofs.Laws.{*ℤ_comm, *ℤ-zero}
use Rattle.whole_ring.proofs.Ring.{ring, var, con, ◌⊕◌, ◌⊖◌, ◌⊗◌}
use Rattle.whole_ring.proofs.Signs.{lin, sign, none, above, below, nonneg-mul, nonneg-cancel, le-mul}
use Rattle.plane_edge.proofs.SameLemmas.{min-join, max-join, min-split, max-split}

-- the low end is lower, or level and to the left
abbrev pub Rises : Edge → Type 0
Rises e = (pos 0 <ℤ rise e) ⊎ ((rise e ≡ pos 0) × (pos 0 <ℤ run e))

below_is : (x0 y0 x1 y1 : ℤ) → IsTrue (int_lt y0 y1 || (int_le y0 y1 && int_lt x0 x1)) → (y0 <ℤ y1) ⊎ ((y0 ≡ y1) × (x0 <ℤ x1))
below_is x0 y0 x1 y1 h = grind (arith, ints)

pub rises : (e : Edge) → Rises e
rises e = elim (below_is e.low.x e.low.y e.high.x e.high.y e.rising) [ inl h ↦ inl (omega (arith, lin)) | inr h ↦ inr (omega (arith, lin), omega (arith, lin)) ]

pub rise_nonneg : (e : Edge) → pos 0 ≤ℤ rise e
rise_nonneg e = elim (rises e) [ inl h ↦ omega (arith, lin) | inr h ↦ omega (arith, lin) ]

-- what is left of an edge past n of m
pub left_over : (low high n m : ℤ) → (m -ℤ n) *ℤ (high -ℤ low) ≡ high *ℤ m -ℤ (low *ℤ m +ℤ n *ℤ (high -ℤ low))
left_over low high n m = ring (low ∷ high ∷ n ∷ m ∷ []) ((var 3 ⊖ var 2) ⊗ (var 1 ⊖ var 0)) (var 1 ⊗ var 3 ⊖ (var 0 ⊗ var 3 ⊕ var 2 ⊗ (var 1 ⊖ var 0))) refl

on_line : (x0 y0 dx dy n m : ℤ) → (x0 *ℤ m -ℤ (x0 *ℤ m +ℤ n *ℤ dx)) *ℤ dy +ℤ dx *ℤ ((y0 *ℤ m +ℤ n *ℤ dy) -ℤ y0 *ℤ m) ≡ pos 0
on_line x0 y0 dx dy n m = ring (x0 ∷ y0 ∷ dx ∷ dy ∷ n ∷ m ∷ []) ((var 0 ⊗ var 5 ⊖ (var 0 ⊗ var 5 ⊕ var 4 ⊗ var 2)) ⊗ var 3 ⊕ var 2 ⊗ ((var 1 ⊗ var 5 ⊕ var 4 ⊗ var 3) ⊖ var 1 ⊗ var 5)) (con (pos 0)) refl

mul-neg : (a b : ℤ) → a *ℤ (pos 0 -ℤ b) ≡ pos 0 -ℤ a *ℤ b
mul-neg a b = ring (a ∷ b ∷ []) (var 0 ⊗ (con (pos 0) ⊖ var 1)) (con (pos 0) ⊖ var 0 ⊗ var 1) refl

-- the part n/m of a stretch is between its ends
pub stretch : (low high n m : ℤ) → pos 0 ≤ℤ n → n ≤ℤ m → pos 0 ≤ℤ (high -ℤ low) → ((low *ℤ m) ≤ℤ (low *ℤ m +ℤ n *ℤ (high -ℤ low))) × ((low *ℤ m +ℤ n *ℤ (high -ℤ low)) ≤ℤ (high *ℤ m))
stretch low high n m h k d =
    let p = nonneg-mul n (high -ℤ low) h d in
    let q = nonneg-mul (m -ℤ n) (high -ℤ low) (omega (arith, lin)) d in
    omega (arith, lin, left_over low high n m)

pub stretch_back : (low high n m : ℤ) → pos 0 ≤ℤ n → n ≤ℤ m → (high -ℤ low) ≤ℤ pos 0 → ((high *ℤ m) ≤ℤ (low *ℤ m +ℤ n *ℤ (high -ℤ low))) × ((low *ℤ m +ℤ n *ℤ (high -ℤ low)) ≤ℤ (low *ℤ m))
stretch_back low high n m h k d =
    let p = nonneg-mul n (pos 0 -ℤ (high -ℤ low)) h (omega (arith, lin)) in
    let q = nonneg-mul (m -ℤ n) (pos 0 -ℤ (high -ℤ low)) (omega (arith, lin)) (omega (arith, lin)) in
    omega (arith, lin, left_over low high n m, mul-neg n (high -ℤ low), mul-neg (m -ℤ n) (high -ℤ low))

pub On-along : (e : Edge) (n m : ℤ) → pos 0 ≤ℤ n → n ≤ℤ m → On e (along e n m)
On-along e n m h k =
    let s = along e n m in
    let ys = stretch e.low.y e.high.y n m h k (rise_nonneg e) in
    let xs : ((e.low.x *ℤ m) ≤ℤ s.x) × (s.x ≤ℤ (e.high.x *ℤ m)) ⊎ ((e.high.x *ℤ m) ≤ℤ s.x) × (s.x ≤ℤ (e.low.x *ℤ m)) =
    elim (sign (run e)) [ below d ↦ inr (stretch_back e.low.x e.high.x n m h k (omega (arith, lin))) | none d ↦ inl (stretch e.low.x e.high.x n m h k (omega (arith, lin))) | above d ↦ inl (stretch e.low.x e.high.x n m h k (omega (arith, lin))) ] in
    record {
      collinear = on_line e.low.x e.low.y (run e) (rise e) n m;
      from_low = ys.0;
      to_high = ys.1;
      from_left = min-join (e.low.x *ℤ m) (e.high.x *ℤ m) s.x (elim xs [ inl c ↦ inl c.0 | inr c ↦ inr c.0 ]);
      to_right = max-join (e.low.x *ℤ m) (e.high.x *ℤ m) s.x (elim xs [ inl c ↦ inr c.1 | inr c ↦ inl c.1 ]);
    }

-- a part below 0 or above m is not on the edge
first_part : (low n m d : ℤ) → pos 0 <ℤ d → (low *ℤ m) ≤ℤ (low *ℤ m +ℤ n *ℤ d) → pos 0 ≤ℤ n
first_part low n m d h k = nonneg-cancel d n h (omega (arith, lin, *ℤ_comm d n))

last_part : (low high n m : ℤ) → pos 0 <ℤ (high -ℤ low) → (low *ℤ m +ℤ n *ℤ (high -ℤ low)) ≤ℤ (high *ℤ m) → n ≤ℤ m
last_part low high n m h k =
    let p = nonneg-cancel (high -ℤ low) (m -ℤ n) h (omega (arith, lin, *ℤ_comm (high -ℤ low) (m -ℤ n), left_over low high n m)) in omega (arith, lin)

wider : (low high m : ℤ) → pos 0 <ℤ m → pos 0 <ℤ (high -ℤ low) → (low *ℤ m) ≤ℤ (high *ℤ m)
wider low high m h d =
    let p = le-mul m low high (omega (arith, lin)) (omega (arith, lin)) in omega (arith, lin, *ℤ_comm m low, *ℤ_comm m high)

pub part-in-range : (e : Edge) (n m : ℤ) → pos 0 <ℤ m → On e (along e n m) → (pos 0 ≤ℤ n) × (n ≤ℤ m)
part-in-range e n m hm o = elim (rises e) [
  | inl h ↦ (first_part e.low.y n m (rise e) h o.from_low, last_part e.low.y e.high.y n m h o.to_high)
  | inr h ↦
      let w = wider e.low.x e.high.x m hm h.1 in
      let left : (e.low.x *ℤ m) ≤ℤ (e.low.x *ℤ m +ℤ n *ℤ run e) = elim (min-split (e.low.x *ℤ m) (e.high.x *ℤ m) (e.low.x *ℤ m +ℤ n *ℤ run e) o.from_left) [ inl c ↦ c | inr c ↦ omega (arith, lin) ] in
      let right : (e.low.x *ℤ m +ℤ n *ℤ run e) ≤ℤ (e.high.x *ℤ m) = elim (max-split (e.low.x *ℤ m) (e.high.x *ℤ m) (e.low.x *ℤ m +ℤ n *ℤ run e) o.to_right) [ inl c ↦ omega (arith, lin) | inr c ↦ c ] in
      (first_part e.low.x n m (run e) h.1 left, last_part e.low.x e.high.x n m h.1 right)
]

-- Cramer's rule for x and for y: s times the common point is the spot at the part s * offset / (s * turn)
cramer_x : (x0 y0 x1 y1 u0 v0 u1 v1 x y m s : ℤ) →
    x *ℤ (s *ℤ ((x1 -ℤ x0) *ℤ (v1 -ℤ v0) -ℤ (y1 -ℤ y0) *ℤ (u1 -ℤ u0)))
    ≡ (x0 *ℤ (s *ℤ ((x1 -ℤ x0) *ℤ (v1 -ℤ v0) -ℤ (y1 -ℤ y0) *ℤ (u1 -ℤ u0))) +ℤ (s *ℤ ((u0 -ℤ x0) *ℤ (v1 -ℤ v0) -ℤ (v0 -ℤ y0) *ℤ (u1 -ℤ u0))) *ℤ (x1 -ℤ x0)) *ℤ m
    +ℤ (s *ℤ (u1 -ℤ u0)) *ℤ ((x0 *ℤ m -ℤ x) *ℤ (y1 -ℤ y0) +ℤ (x1 -ℤ x0) *ℤ (y -ℤ y0 *ℤ m))
    -ℤ (s *ℤ (x1 -ℤ x0)) *ℤ ((u0 *ℤ m -ℤ x) *ℤ (v1 -ℤ v0) +ℤ (u1 -ℤ u0) *ℤ (y -ℤ v0 *ℤ m))
cramer_x x0 y0 x1 y1 u0 v0 u1 v1 x y m s =
    let X0 = var 0 in let Y0 = var 1 in let X1 = var 2 in let Y1 = var 3 in let U0 = var 4 in let V0 = var 5 in let U1 = var 6 in let V1 = var 7 in let X = var 8 in let Y = var 9 in let M = var 10 in let S = var 11 in
    let T = S ⊗ ((X1 ⊖ X0) ⊗ (V1 ⊖ V0) ⊖ (Y1 ⊖ Y0) ⊗ (U1 ⊖ U0)) in
    ring (x0 ∷ y0 ∷ x1 ∷ y1 ∷ u0 ∷ v0 ∷ u1 ∷ v1 ∷ x ∷ y ∷ m ∷ s ∷ [])
    (X ⊗ T)
    ((X0 ⊗ T ⊕ (S ⊗ ((U0 ⊖ X0) ⊗ (V1 ⊖ V0) ⊖ (V0 ⊖ Y0) ⊗ (U1 ⊖ U0))) ⊗ (X1 ⊖ X0)) ⊗ M
    ⊕ (S ⊗ (U1 ⊖ U0)) ⊗ ((X0 ⊗ M ⊖ X) ⊗ (Y1 ⊖ Y0) ⊕ (X1 ⊖ X0) ⊗ (Y ⊖ Y0 ⊗ M))
    ⊖ (S ⊗ (X1 ⊖ X0)) ⊗ ((U0 ⊗ M ⊖ X) ⊗ (V1 ⊖ V0) ⊕ (U1 ⊖ U0) ⊗ (Y ⊖ V0 ⊗ M))) refl

cramer_y : (x0 y0 x1 y1 u0 v0 u1 v1 x y m s : ℤ) →
    y *ℤ (s *ℤ ((x1 -ℤ x0) *ℤ (v1 -ℤ v0) -ℤ (y1 -ℤ y0) *ℤ (u1 -ℤ u0)))
    ≡ (y0 *ℤ (s *ℤ ((x1 -ℤ x0) *ℤ (v1 -ℤ v0) -ℤ (y1 -ℤ y0) *ℤ (u1 -ℤ u0))) +ℤ (s *ℤ ((u0 -ℤ x0) *ℤ (v1 -ℤ v0) -ℤ (v0 -ℤ y0) *ℤ (u1 -ℤ u0))) *ℤ (y1 -ℤ y0)) *ℤ m
    +ℤ (s *ℤ (v1 -ℤ v0)) *ℤ ((x0 *ℤ m -ℤ x) *ℤ (y1 -ℤ y0) +ℤ (x1 -ℤ x0) *ℤ (y -ℤ y0 *ℤ m))
    -ℤ (s *ℤ (y1 -ℤ y0)) *ℤ ((u0 *ℤ m -ℤ x) *ℤ (v1 -ℤ v0) +ℤ (u1 -ℤ u0) *ℤ (y -ℤ v0 *ℤ m))
cramer_y x0 y0 x1 y1 u0 v0 u1 v1 x y m s =
    let X0 = var 0 in let Y0 = var 1 in let X1 = var 2 in let Y1 = var 3 in let U0 = var 4 in let V0 = var 5 in let U1 = var 6 in let V1 = var 7 in let X = var 8 in let Y = var 9 in let M = var 10 in let S = var 11 in
    let T = S ⊗ ((X1 ⊖ X0) ⊗ (V1 ⊖ V0) ⊖ (Y1 ⊖ Y0) ⊗ (U1 ⊖ U0)) in
    ring (x0 ∷ y0 ∷ x1 ∷ y1 ∷ u0 ∷ v0 ∷ u1 ∷ v1 ∷ x ∷ y ∷ m ∷ s ∷ [])
    (Y ⊗ T)
    ((Y0 ⊗ T ⊕ (S ⊗ ((U0 ⊖ X0) ⊗ (V1 ⊖ V0) ⊖ (V0 ⊖ Y0) ⊗ (U1 ⊖ U0))) ⊗ (Y1 ⊖ Y0)) ⊗ M
    ⊕ (S ⊗ (V1 ⊖ V0)) ⊗ ((X0 ⊗ M ⊖ X) ⊗ (Y1 ⊖ Y0) ⊕ (X1 ⊖ X0) ⊗ (Y ⊖ Y0 ⊗ M))
    ⊖ (S ⊗ (Y1 ⊖ Y0)) ⊗ ((U0 ⊗ M ⊖ X) ⊗ (V1 ⊖ V0) ⊕ (U1 ⊖ U0) ⊗ (Y ⊖ V0 ⊗ M))) refl

drop_zeros : (a p q c d : ℤ) → c ≡ pos 0 → d ≡ pos 0 → (a +ℤ p *ℤ c) -ℤ q *ℤ d ≡ a
drop_zeros a p q c d hc hd =
    let e : p *ℤ c ≡ pos 0 = ap (λ z. p *ℤ z) hc ∙ *ℤ-zero p in
    let f : q *ℤ d ≡ pos 0 = ap (λ z. q *ℤ z) hd ∙ *ℤ-zero q in omega (arith, lin)

-- a common point of two lines is the one that Cramer's rule gives
pub common_is : (e f : Edge) (q : Spot) (s : ℤ) → side_of e q ≡ pos 0 → side_of f q ≡ pos 0 → Same q (along e (s *ℤ offset e f f) (s *ℤ turn e f))
common_is e f q s he hf = record {
  x = cramer_x e.low.x e.low.y e.high.x e.high.y f.low.x f.low.y f.high.x f.high.y q.x q.y q.m s ∙ drop_zeros _ (s *ℤ run f) (s *ℤ run e) (side_of e q) (side_of f q) he hf;
  y = cramer_y e.low.x e.low.y e.high.x e.high.y f.low.x f.low.y f.high.x f.high.y q.x q.y q.m s ∙ drop_zeros _ (s *ℤ rise f) (s *ℤ rise e) (side_of e q) (side_of f q) he hf;
}
