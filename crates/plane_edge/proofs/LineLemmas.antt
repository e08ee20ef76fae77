-- Two edges on one line: the order of points along it.
use Rattle.std.proofs.Common.{◌≡◌, ◌↔◌, not, true≢false, ◌⊎◌, inl, inr, refl, sym, ◌∙◌, ap, subst, arith, Bool, true, false, IsTrue, int_lt, int_le, ◌&&◌, ◌||◌, [], ◌∷◌, ℤ, pos, ◌+ℤ◌, ◌-ℤ◌, ◌*ℤ◌, ◌≤ℤ◌, ◌<ℤ◌}
use Rattle.std.proofs.lemmas.Int.{ints}
use Rattle.plane_edge.specs.declared.edge.Edge.{Edge}
use Rattle.plane_edge.specs.declared.point.Point.{Point}
use Rattle.plane_edge.specs.declared.spot.Spot.{Spot}
use Rattle.plane_edge.specs.Line.{whole, Upto, IsLaterLow, IsEarlierHigh}
use Rattle.plane_edge.specs.Order.{is_below}
use Rattle.plane_edge.specs.Line.{is_end_of}
use Rattle.std.specs.Ordering.{int_eq}
use Rattle.std.proofs.Math.Nat.{eq-one_of_dvd-one}
use Rattle.plane_edge.specs.Plane.{IsLowest, On, side_of, IsAt, IsEnd, Same, IsMeeting, HaveSameEnds, run, rise, turn}
use Rattle.plane_edge.specs.Plane.IsEnd.{at_low, at_high}
use Rattle.whole_ring.proofs.Laws.{*ℤ_comm, *ℤ-zero}
use Rattle.whole_ring.proofs.Ring.{ring, var, con, ◌⊕◌, ◌⊖◌, ◌⊗◌}
use Rattle.whole_ring.proofs.Signs.{lin, either_way, le-mul, le-cancel, lt-cancel, zero-cancel, same-cancel, nonneg-mul, nonneg-cancel}
use Rattle.plane_edge.proofs.SameLemmas.{IsEnd-same, min-join, max-join, min-split, max-split}
use Rattle.plane_edge.proofs.MeetLemmas.{rises}

pub Upto_trans : (a b c d x y : ℤ) → Upto a b c d → Upto c d x y → Upto a b x y
Upto_trans a b c d x y h k = grind (arith, lin)

pub Upto_same : (a b c d : ℤ) → Upto a b c d → Upto c d a b → (a ≡ c) × (b ≡ d)
Upto_same a b c d h k = grind (arith, lin)

-- points against points over one denominator
pub Upto-cancel : (a b c d m : ℤ) → pos 0 <ℤ m → Upto (a *ℤ m) (b *ℤ m) (c *ℤ m) (d *ℤ m) → Upto a b c d
Upto-cancel a b c d m h (inl k) = inl (lt-cancel m b d h (omega (arith, lin, *ℤ_comm m b, *ℤ_comm m d)))
Upto-cancel a b c d m h (inr k) = inr (same-cancel m b d h (*ℤ_comm m b ∙ k.0 ∙ *ℤ_comm d m), le-cancel m a c h (omega (arith, lin, k.1, *ℤ_comm m a, *ℤ_comm m c)))

abbrev pub From : Point → Spot → Type 0
From p s = Upto (p.x *ℤ s.m) (p.y *ℤ s.m) s.x s.y

abbrev pub To : Point → Spot → Type 0
To p s = Upto s.x s.y (p.x *ℤ s.m) (p.y *ℤ s.m)

-- where the heights are equal, so are the places
level : (x m dx dy y0 y x0 : ℤ) → pos 0 <ℤ dy → (x0 *ℤ m -ℤ x) *ℤ dy +ℤ dx *ℤ (y -ℤ y0 *ℤ m) ≡ pos 0 → y0 *ℤ m ≡ y → x0 *ℤ m ≡ x
level x m dx dy y0 y x0 h c e =
    let z : dx *ℤ (y -ℤ y0 *ℤ m) ≡ pos 0 = (let w : y -ℤ y0 *ℤ m ≡ pos 0 = omega (arith, lin) in ap (λ v. dx *ℤ v) w ∙ *ℤ-zero dx) in
    let v : dy *ℤ (x0 *ℤ m -ℤ x) ≡ pos 0 = omega (arith, lin, *ℤ_comm dy (x0 *ℤ m -ℤ x)) in
    let u = zero-cancel dy (x0 *ℤ m -ℤ x) h v in omega (arith, lin)

-- the side, seen from the high end
side-high : (x0 y0 x1 y1 x y m : ℤ) → (x0 *ℤ m -ℤ x) *ℤ (y1 -ℤ y0) +ℤ (x1 -ℤ x0) *ℤ (y -ℤ y0 *ℤ m) ≡ (x1 *ℤ m -ℤ x) *ℤ (y1 -ℤ y0) +ℤ (x1 -ℤ x0) *ℤ (y -ℤ y1 *ℤ m)
side-high x0 y0 x1 y1 x y m = ring (x0 ∷ y0 ∷ x1 ∷ y1 ∷ x ∷ y ∷ m ∷ [])
    ((var 0 ⊗ var 6 ⊖ var 4) ⊗ (var 3 ⊖ var 1) ⊕ (var 2 ⊖ var 0) ⊗ (var 5 ⊖ var 1 ⊗ var 6))
    ((var 2 ⊗ var 6 ⊖ var 4) ⊗ (var 3 ⊖ var 1) ⊕ (var 2 ⊖ var 0) ⊗ (var 5 ⊖ var 3 ⊗ var 6)) refl

split_le : (a b : ℤ) → a ≤ℤ b → (a <ℤ b) ⊎ (a ≡ b)
split_le a b h = elim (either_way b a) [ inl k ↦ inr (omega (arith, lin)) | inr k ↦ inl k ]

pub From-on : (e : Edge) (s : Spot) → pos 0 <ℤ s.m → On e s → From e.low s
From-on e s h o = elim (split_le (e.low.y *ℤ s.m) s.y o.from_low) [
  | inl k ↦ inl k
  | inr k ↦ inr (
    k,
    elim (rises e) [
      | inl r ↦ (let w = level s.x s.m (run e) (rise e) e.low.y s.y e.low.x r o.collinear k in omega (arith, lin))
      | inr r ↦ elim (min-split (e.low.x *ℤ s.m) (e.high.x *ℤ s.m) s.x o.from_left) [
        | inl j ↦ j
        | inr j ↦ (let w = le-mul s.m e.low.x e.high.x (omega (arith, lin)) (omega (arith, lin, r.1)) in omega (arith, lin, *ℤ_comm s.m e.low.x, *ℤ_comm s.m e.high.x))
      ]
    ],
  )
]

pub To-on : (e : Edge) (s : Spot) → pos 0 <ℤ s.m → On e s → To e.high s
To-on e s h o = elim (split_le s.y (e.high.y *ℤ s.m) o.to_high) [
  | inl k ↦ inl k
  | inr k ↦ inr (
    k,
    elim (rises e) [
      | inl r ↦ (let w = level s.x s.m (run e) (rise e) e.high.y s.y e.high.x r (sym (side-high e.low.x e.low.y e.high.x e.high.y s.x s.y s.m) ∙ o.collinear) (sym k) in omega (arith, lin))
      | inr r ↦ elim (max-split (e.low.x *ℤ s.m) (e.high.x *ℤ s.m) s.x o.to_right) [
        | inr j ↦ j
        | inl j ↦ (let w = le-mul s.m e.low.x e.high.x (omega (arith, lin)) (omega (arith, lin, r.1)) in omega (arith, lin, *ℤ_comm s.m e.low.x, *ℤ_comm s.m e.high.x))
      ]
    ],
  )
]

from_height : (a b c d : ℤ) → Upto a b c d → b ≤ℤ d
from_height a b c d (inl h) = omega (arith, lin)
from_height a b c d (inr h) = omega (arith, lin, h.0)

from_place : (a b c d : ℤ) → Upto a b c d → b ≡ d → a ≤ℤ c
from_place a b c d (inl h) e = absurd (omega (arith, lin))
from_place a b c d (inr h) e = h.1

-- the place is between, by the heights
across_from : (x0m x dx dy t : ℤ) → pos 0 <ℤ dy → pos 0 ≤ℤ t → (x0m -ℤ x) *ℤ dy +ℤ dx *ℤ t ≡ pos 0 → ((pos 0 ≤ℤ dx) → x0m ≤ℤ x) × ((dx ≤ℤ pos 0) → x ≤ℤ x0m)
across_from x0m x dx dy t h k c = (
  (λ d. (let p = nonneg-mul dx t d k in let w : dy *ℤ (x -ℤ x0m) ≡ pos 0 -ℤ (x0m -ℤ x) *ℤ dy = ring (x0m ∷ x ∷ dy ∷ []) (var 2 ⊗ (var 1 ⊖ var 0)) (con (pos 0) ⊖ (var 0 ⊖ var 1) ⊗ var 2) refl in
      let q = nonneg-cancel dy (x -ℤ x0m) h (omega (arith, lin)) in omega (arith, lin))),
  (λ d. (let p = nonneg-mul (pos 0 -ℤ dx) t (omega (arith, lin)) k in let v : (pos 0 -ℤ dx) *ℤ t ≡ pos 0 -ℤ dx *ℤ t = ring (dx ∷ t ∷ []) ((con (pos 0) ⊖ var 0) ⊗ var 1) (con (pos 0) ⊖ var 0 ⊗ var 1) refl in
      let w : dy *ℤ (x0m -ℤ x) ≡ (x0m -ℤ x) *ℤ dy = *ℤ_comm dy (x0m -ℤ x) in
      let q = nonneg-cancel dy (x0m -ℤ x) h (omega (arith, lin)) in omega (arith, lin))),
)

across_to : (x1m x dx dy t : ℤ) → pos 0 <ℤ dy → t ≤ℤ pos 0 → (x1m -ℤ x) *ℤ dy +ℤ dx *ℤ t ≡ pos 0 → ((pos 0 ≤ℤ dx) → x ≤ℤ x1m) × ((dx ≤ℤ pos 0) → x1m ≤ℤ x)
across_to x1m x dx dy t h k c =
    let e : (x -ℤ x1m) *ℤ dy +ℤ dx *ℤ (pos 0 -ℤ t) ≡ pos 0 -ℤ ((x1m -ℤ x) *ℤ dy +ℤ dx *ℤ t) = ring (x1m ∷ x ∷ dx ∷ dy ∷ t ∷ []) ((var 1 ⊖ var 0) ⊗ var 3 ⊕ var 2 ⊗ (con (pos 0) ⊖ var 4)) (con (pos 0) ⊖ ((var 0 ⊖ var 1) ⊗ var 3 ⊕ var 2 ⊗ var 4)) refl in
    across_from x x1m dx dy (pos 0 -ℤ t) h (omega (arith, lin)) (omega (arith, lin))

pub On-between : (e : Edge) (s : Spot) → side_of e s ≡ pos 0 → From e.low s → To e.high s → On e s
On-between e s c f t =
    let low = from_height (e.low.x *ℤ s.m) (e.low.y *ℤ s.m) s.x s.y f in
    let high = from_height s.x s.y (e.high.x *ℤ s.m) (e.high.y *ℤ s.m) t in
    let c1 = sym (side-high e.low.x e.low.y e.high.x e.high.y s.x s.y s.m) ∙ c in
    let x0 = e.low.x *ℤ s.m in let x1 = e.high.x *ℤ s.m in
    let xs : ((x0 ≤ℤ s.x) × (s.x ≤ℤ x1)) ⊎ ((x1 ≤ℤ s.x) × (s.x ≤ℤ x0)) = elim (rises e) [
      | inl r ↦
          let p = across_from x0 s.x (run e) (rise e) (s.y -ℤ e.low.y *ℤ s.m) r (omega (arith, lin)) c in
          let q = across_to x1 s.x (run e) (rise e) (s.y -ℤ e.high.y *ℤ s.m) r (omega (arith, lin)) c1 in
          elim (either_way (pos 0) (run e)) [ inl d ↦ inl (p.0 d, q.0 d) | inr d ↦ inr (q.1 (omega (arith, lin)), p.1 (omega (arith, lin))) ]
      | inr r ↦
          let same : e.low.y *ℤ s.m ≡ e.high.y *ℤ s.m = ap (λ z. z *ℤ s.m) (let w : e.low.y ≡ e.high.y = omega (arith, lin, r.0) in w) in
          inl (from_place x0 (e.low.y *ℤ s.m) s.x s.y f (omega (arith, lin)), from_place s.x s.y x1 (e.high.y *ℤ s.m) t (omega (arith, lin)))
    ] in
    record {
      collinear = c;
      from_low = low;
      to_high = high;
      from_left = min-join x0 x1 s.x (elim xs [ inl k ↦ inl k.0 | inr k ↦ inr k.0 ]);
      to_right = max-join x0 x1 s.x (elim xs [ inl k ↦ inr k.1 | inr k ↦ inl k.1 ]);
    }

-- ---- an end of the one edge is on the line of the other, where the edges are parallel and have a common point
line_x : (x0 y0 dx dy u0 v0 du dv x y m : ℤ) →
    du *ℤ (m *ℤ ((x0 *ℤ pos 1 -ℤ u0) *ℤ dy +ℤ dx *ℤ (v0 -ℤ y0 *ℤ pos 1)))
    ≡ du *ℤ ((x0 *ℤ m -ℤ x) *ℤ dy +ℤ dx *ℤ (y -ℤ y0 *ℤ m)) -ℤ dx *ℤ ((u0 *ℤ m -ℤ x) *ℤ dv +ℤ du *ℤ (y -ℤ v0 *ℤ m)) +ℤ (u0 *ℤ m -ℤ x) *ℤ (dx *ℤ dv -ℤ dy *ℤ du)
line_x x0 y0 dx dy u0 v0 du dv x y m = ring (x0 ∷ y0 ∷ dx ∷ dy ∷ u0 ∷ v0 ∷ du ∷ dv ∷ x ∷ y ∷ m ∷ [])
    (var 6 ⊗ (var 10 ⊗ ((var 0 ⊗ con (pos 1) ⊖ var 4) ⊗ var 3 ⊕ var 2 ⊗ (var 5 ⊖ var 1 ⊗ con (pos 1)))))
    (var 6 ⊗ ((var 0 ⊗ var 10 ⊖ var 8) ⊗ var 3 ⊕ var 2 ⊗ (var 9 ⊖ var 1 ⊗ var 10)) ⊖ var 2 ⊗ ((var 4 ⊗ var 10 ⊖ var 8) ⊗ var 7 ⊕ var 6 ⊗ (var 9 ⊖ var 5 ⊗ var 10)) ⊕ (var 4 ⊗ var 10 ⊖ var 8) ⊗ (var 2 ⊗ var 7 ⊖ var 3 ⊗ var 6)) refl

line_y : (x0 y0 dx dy u0 v0 du dv x y m : ℤ) →
    dv *ℤ (m *ℤ ((x0 *ℤ pos 1 -ℤ u0) *ℤ dy +ℤ dx *ℤ (v0 -ℤ y0 *ℤ pos 1)))
    ≡ dv *ℤ ((x0 *ℤ m -ℤ x) *ℤ dy +ℤ dx *ℤ (y -ℤ y0 *ℤ m)) -ℤ dy *ℤ ((u0 *ℤ m -ℤ x) *ℤ dv +ℤ du *ℤ (y -ℤ v0 *ℤ m)) -ℤ (y -ℤ v0 *ℤ m) *ℤ (dx *ℤ dv -ℤ dy *ℤ du)
line_y x0 y0 dx dy u0 v0 du dv x y m = ring (x0 ∷ y0 ∷ dx ∷ dy ∷ u0 ∷ v0 ∷ du ∷ dv ∷ x ∷ y ∷ m ∷ [])
    (var 7 ⊗ (var 10 ⊗ ((var 0 ⊗ con (pos 1) ⊖ var 4) ⊗ var 3 ⊕ var 2 ⊗ (var 5 ⊖ var 1 ⊗ con (pos 1)))))
    (var 7 ⊗ ((var 0 ⊗ var 10 ⊖ var 8) ⊗ var 3 ⊕ var 2 ⊗ (var 9 ⊖ var 1 ⊗ var 10)) ⊖ var 3 ⊗ ((var 4 ⊗ var 10 ⊖ var 8) ⊗ var 7 ⊕ var 6 ⊗ (var 9 ⊖ var 5 ⊗ var 10)) ⊖ (var 9 ⊖ var 5 ⊗ var 10) ⊗ (var 2 ⊗ var 7 ⊖ var 3 ⊗ var 6)) refl

three_zeros : (a b c p q r : ℤ) → p ≡ pos 0 → q ≡ pos 0 → r ≡ pos 0 → (a *ℤ p -ℤ b *ℤ q +ℤ c *ℤ r ≡ pos 0) × (a *ℤ p -ℤ b *ℤ q -ℤ c *ℤ r ≡ pos 0)
three_zeros a b c p q r hp hq hr =
    let e : a *ℤ p ≡ pos 0 = ap (λ z. a *ℤ z) hp ∙ *ℤ-zero a in
    let f : b *ℤ q ≡ pos 0 = ap (λ z. b *ℤ z) hq ∙ *ℤ-zero b in
    let g : c *ℤ r ≡ pos 0 = ap (λ z. c *ℤ z) hr ∙ *ℤ-zero c in (omega (arith, lin), omega (arith, lin))

pub low_on_line : (e f : Edge) (s : Spot) → pos 0 <ℤ s.m → turn e f ≡ pos 0 → side_of e s ≡ pos 0 → side_of f s ≡ pos 0 → side_of e (whole f.low) ≡ pos 0
low_on_line e f s h t a b =
    let zx = line_x e.low.x e.low.y (run e) (rise e) f.low.x f.low.y (run f) (rise f) s.x s.y s.m ∙ (three_zeros (run f) (run e) (f.low.x *ℤ s.m -ℤ s.x) (side_of e s) (side_of f s) (turn e f) a b t).0 in
    let zy = line_y e.low.x e.low.y (run e) (rise e) f.low.x f.low.y (run f) (rise f) s.x s.y s.m ∙ (three_zeros (rise f) (rise e) (s.y -ℤ f.low.y *ℤ s.m) (side_of e s) (side_of f s) (turn e f) a b t).1 in
    zero-cancel s.m (side_of e (whole f.low)) h (elim (rises f) [
      | inl r ↦ zero-cancel (rise f) (s.m *ℤ side_of e (whole f.low)) r zy
      | inr r ↦ zero-cancel (run f) (s.m *ℤ side_of e (whole f.low)) r.1 zx
    ])

-- ---- the ends that bound the common part
below_is : (x0 y0 x1 y1 : ℤ) → IsTrue (int_lt y0 y1 || (int_le y0 y1 && int_lt x0 x1)) → Upto x0 y0 x1 y1
below_is x0 y0 x1 y1 h = grind (arith, ints)

unit_times : (a : ℤ) → a *ℤ pos 1 ≡ a
unit_times a = ring (a ∷ []) (var 0 ⊗ con (pos 1)) (var 0) refl

From-point : (a p : Point) → Upto a.x a.y p.x p.y → From a (whole p)
From-point a p h = subst (λ z. Upto z (a.y *ℤ pos 1) p.x p.y) (sym (unit_times a.x)) (subst (λ z. Upto a.x z p.x p.y) (sym (unit_times a.y)) h)

To-point : (a p : Point) → Upto p.x p.y a.x a.y → To a (whole p)
To-point a p h = subst (λ z. Upto p.x p.y z (a.y *ℤ pos 1)) (sym (unit_times a.x)) (subst (λ z. Upto p.x p.y a.x z) (sym (unit_times a.y)) h)

self_upto : (a b : ℤ) → Upto a b a b
self_upto a b = inr (refl, omega (arith, lin))

rising_upto : (e : Edge) → Upto e.low.x e.low.y e.high.x e.high.y
rising_upto e = below_is e.low.x e.low.y e.high.x e.high.y e.rising

side_low : (e : Edge) → side_of e (whole e.low) ≡ pos 0
side_low e = ring (e.low.x ∷ e.low.y ∷ run e ∷ rise e ∷ []) ((var 0 ⊗ con (pos 1) ⊖ var 0) ⊗ var 3 ⊕ var 2 ⊗ (var 1 ⊖ var 1 ⊗ con (pos 1))) (con (pos 0)) refl

side_high : (e : Edge) → side_of e (whole e.high) ≡ pos 0
side_high e = ring (e.low.x ∷ e.low.y ∷ e.high.x ∷ e.high.y ∷ []) ((var 0 ⊗ con (pos 1) ⊖ var 2) ⊗ (var 3 ⊖ var 1) ⊕ (var 2 ⊖ var 0) ⊗ (var 3 ⊖ var 1 ⊗ con (pos 1))) (con (pos 0)) refl

pub On-low : (e : Edge) → On e (whole e.low)
On-low e = On-between e (whole e.low) (side_low e) (From-point e.low e.low (self_upto e.low.x e.low.y)) (To-point e.high e.low (rising_upto e))

pub On-high : (e : Edge) → On e (whole e.high)
On-high e = On-between e (whole e.high) (side_high e) (From-point e.low e.high (rising_upto e)) (To-point e.high e.high (self_upto e.high.x e.high.y))

turn-swap : (e f : Edge) → turn f e ≡ pos 0 -ℤ turn e f
turn-swap e f = ring (run e ∷ rise e ∷ run f ∷ rise f ∷ []) (var 2 ⊗ var 1 ⊖ var 3 ⊗ var 0) (con (pos 0) ⊖ (var 0 ⊗ var 3 ⊖ var 1 ⊗ var 2)) refl

pub high_on_line : (e f : Edge) (s : Spot) → pos 0 <ℤ s.m → turn e f ≡ pos 0 → side_of e s ≡ pos 0 → side_of f s ≡ pos 0 → side_of e (whole f.high) ≡ pos 0
high_on_line e f s h t a b =
    let b' = sym (side-high f.low.x f.low.y f.high.x f.high.y s.x s.y s.m) ∙ b in
    let zx = line_x e.low.x e.low.y (run e) (rise e) f.high.x f.high.y (run f) (rise f) s.x s.y s.m ∙ (three_zeros (run f) (run e) (f.high.x *ℤ s.m -ℤ s.x) (side_of e s) _ (turn e f) a b' t).0 in
    let zy = line_y e.low.x e.low.y (run e) (rise e) f.high.x f.high.y (run f) (rise f) s.x s.y s.m ∙ (three_zeros (rise f) (rise e) (s.y -ℤ f.high.y *ℤ s.m) (side_of e s) _ (turn e f) a b' t).1 in
    zero-cancel s.m (side_of e (whole f.high)) h (elim (rises f) [
      | inl r ↦ zero-cancel (rise f) (s.m *ℤ side_of e (whole f.high)) r zy
      | inr r ↦ zero-cancel (run f) (s.m *ℤ side_of e (whole f.high)) r.1 zx
    ])

-- a low end of f from e's low end on is on e
pub low_on : (e f : Edge) (s : Spot) → turn e f ≡ pos 0 → pos 0 <ℤ s.m → On e s → On f s → Upto e.low.x e.low.y f.low.x f.low.y → On e (whole f.low)
low_on e f s t h oe of u =
    let w = Upto_trans (f.low.x *ℤ s.m) (f.low.y *ℤ s.m) s.x s.y (e.high.x *ℤ s.m) (e.high.y *ℤ s.m) (From-on f s h of) (To-on e s h oe) in
    On-between e (whole f.low) (low_on_line e f s h t oe.collinear of.collinear) (From-point e.low f.low u) (To-point e.high f.low (Upto-cancel f.low.x f.low.y e.high.x e.high.y s.m h w))

pub high_on : (e f : Edge) (s : Spot) → turn e f ≡ pos 0 → pos 0 <ℤ s.m → On e s → On f s → Upto f.high.x f.high.y e.high.x e.high.y → On e (whole f.high)
high_on e f s t h oe of u =
    let w = Upto_trans (e.low.x *ℤ s.m) (e.low.y *ℤ s.m) s.x s.y (f.high.x *ℤ s.m) (f.high.y *ℤ s.m) (From-on e s h oe) (To-on f s h of) in
    On-between e (whole f.high) (high_on_line e f s h t oe.collinear of.collinear) (From-point e.low f.high (Upto-cancel e.low.x e.low.y f.high.x f.high.y s.m h w)) (To-point e.high f.high u)

later_on : (e f : Edge) (p : Point) (s : Spot) → IsLaterLow e f p → turn e f ≡ pos 0 → pos 0 <ℤ s.m → On e s → On f s → On e (whole p) × On f (whole p) × From p s
later_on e f p s l t h oe of = elim l.one [
  | inl k ↦
      let on_f : On f (whole e.low) = low_on f e s (omega (arith, lin, turn-swap e f)) h of oe (subst (λ z. Upto f.low.x f.low.y z.x z.y) k l.from_f) in
      (subst (λ z. On e (whole z)) (sym k) (On-low e), subst (λ z. On f (whole z)) (sym k) on_f, subst (λ z. From z s) (sym k) (From-on e s h oe))
  | inr k ↦
      let on_e : On e (whole f.low) = low_on e f s t h oe of (subst (λ z. Upto e.low.x e.low.y z.x z.y) k l.from_e) in
      (subst (λ z. On e (whole z)) (sym k) on_e, subst (λ z. On f (whole z)) (sym k) (On-low f), subst (λ z. From z s) (sym k) (From-on f s h of))
]

earlier_on : (e f : Edge) (q : Point) (s : Spot) → IsEarlierHigh e f q → turn e f ≡ pos 0 → pos 0 <ℤ s.m → On e s → On f s → On e (whole q) × On f (whole q) × To q s
earlier_on e f q s l t h oe of = elim l.one [
  | inl k ↦
      let on_f : On f (whole e.high) = high_on f e s (omega (arith, lin, turn-swap e f)) h of oe (subst (λ z. Upto z.x z.y f.high.x f.high.y) k l.to_f) in
      (subst (λ z. On e (whole z)) (sym k) (On-high e), subst (λ z. On f (whole z)) (sym k) on_f, subst (λ z. To z s) (sym k) (To-on e s h oe))
  | inr k ↦
      let on_e : On e (whole f.high) = high_on e f s t h oe of (subst (λ z. Upto z.x z.y e.high.x e.high.y) k l.to_e) in
      (subst (λ z. On e (whole z)) (sym k) on_e, subst (λ z. On f (whole z)) (sym k) (On-high f), subst (λ z. To z s) (sym k) (To-on f s h of))
]

-- a point from which and up to which the spot is
same_as : (p : Point) (s : Spot) → From p s → To p s → Same (whole p) s
same_as p s f t = let c = Upto_same (p.x *ℤ s.m) (p.y *ℤ s.m) s.x s.y f t in record { x = c.0 ∙ sym (unit_times s.x); y = c.1 ∙ sym (unit_times s.y) }

From-at : (p c : Point) (s : Spot) → IsAt c (whole p) → From c s → From p s
From-at p c s a f = subst (λ z. Upto (z *ℤ s.m) (p.y *ℤ s.m) s.x s.y) (sym (a.x ∙ unit_times c.x)) (subst (λ z. Upto (c.x *ℤ s.m) (z *ℤ s.m) s.x s.y) (sym (a.y ∙ unit_times c.y)) f)

To-at : (p c : Point) (s : Spot) → IsAt c (whole p) → To c s → To p s
To-at p c s a f = subst (λ z. Upto s.x s.y (z *ℤ s.m) (p.y *ℤ s.m)) (sym (a.x ∙ unit_times c.x)) (subst (λ z. Upto s.x s.y (c.x *ℤ s.m) (z *ℤ s.m)) (sym (a.y ∙ unit_times c.y)) f)

stuck : (e f : Edge) (p : Point) (s : Spot) → IsMeeting e f s → From p s → To p s → IsEnd e (whole p) × IsEnd f (whole p) → ⊥
stuck e f p s m from to ends = let same = same_as p s from to in m.no_shared_end (IsEnd-same e (whole p) s (omega (arith, lin)) same ends.0, IsEnd-same f (whole p) s (omega (arith, lin)) same ends.1)

at_low_of : (e f : Edge) (p : Point) (s : Spot) (g : Edge) → IsMeeting e f s → On g s → From p s → IsEnd e (whole p) × IsEnd f (whole p) → IsEnd g (whole p) → IsAt g.low (whole p)
at_low_of e f p s g m on from ends (at_low a) = a
at_low_of e f p s g m on from ends (at_high a) = absurd (stuck e f p s m from (To-at p g.high s a (To-on g s m.real on)) ends)

at_high_of : (e f : Edge) (q : Point) (s : Spot) (g : Edge) → IsMeeting e f s → On g s → To q s → IsEnd e (whole q) × IsEnd f (whole q) → IsEnd g (whole q) → IsAt g.high (whole q)
at_high_of e f q s g m on to ends (at_high a) = a
at_high_of e f q s g m on to ends (at_low a) = absurd (stuck e f q s m (From-at q g.low s a (From-on g s m.real on)) to ends)

meets_at : (a b : ℤ) (k : ℤ) → k ≡ a *ℤ pos 1 → k ≡ b *ℤ pos 1 → a ≡ b
meets_at a b k h j = sym (unit_times a) ∙ sym h ∙ j ∙ unit_times b

pub level_none : (e f : Edge) (p q : Point) → ¬ HaveSameEnds e f → turn e f ≡ pos 0 → IsLaterLow e f p → IsEarlierHigh e f q →
    ¬ IsMeeting e f (whole p) → ¬ IsMeeting e f (whole q) → (s : Spot) → ¬ IsMeeting e f s
level_none e f p q apart t l r not_p not_q s m =
    let at_p = later_on e f p s l t m.real m.on_e m.on_f in
    let at_q = earlier_on e f q s r t m.real m.on_e m.on_f in
    not_p (record {
      real = omega (arith, lin);
      on_e = at_p.0;
      on_f = at_p.1;
      no_shared_end = λ bp.
          not_q (record {
            real = omega (arith, lin);
            on_e = at_q.0;
            on_f = at_q.1;
            no_shared_end = λ bq.
                (let a = at_low_of e f p s e m m.on_e at_p.2 bp bp.0 in
                let b = at_low_of e f p s f m m.on_f at_p.2 bp bp.1 in
                let c = at_high_of e f q s e m m.on_e at_q.2 bq bq.0 in
                let d = at_high_of e f q s f m m.on_f at_q.2 bq bq.1 in
                apart (record { low_x = meets_at e.low.x f.low.x p.x a.x b.x; low_y = meets_at e.low.y f.low.y p.y a.y b.y; high_x = meets_at e.high.x f.high.x q.x c.x d.x; high_y = meets_at e.high.y f.high.y q.y c.y d.y }));
          });
    })

-- ---- for the code
pub below_true : (p q : Point) → is_below p q ≡ true → Upto p.x p.y q.x q.y
below_true p q h = below_is p.x p.y q.x q.y h

not_below : (x0 y0 x1 y1 : ℤ) → (int_lt y0 y1 || (int_le y0 y1 && int_lt x0 x1)) ≡ false → Upto x1 y1 x0 y0
not_below x0 y0 x1 y1 h = grind (arith, ints)

pub below_false : (p q : Point) → is_below p q ≡ false → Upto q.x q.y p.x p.y
below_false p q h = not_below p.x p.y q.x q.y h

pub later_then : (e f : Edge) → is_below e.low f.low ≡ true → IsLaterLow e f f.low
later_then e f h = record { one = inr refl; from_e = below_true e.low f.low h; from_f = self_upto f.low.x f.low.y }

pub later_else : (e f : Edge) → is_below e.low f.low ≡ false → IsLaterLow e f e.low
later_else e f h = record { one = inl refl; from_e = self_upto e.low.x e.low.y; from_f = below_false e.low f.low h }

pub earlier_then : (e f : Edge) → is_below e.high f.high ≡ true → IsEarlierHigh e f e.high
earlier_then e f h = record { one = inl refl; to_e = self_upto e.high.x e.high.y; to_f = below_true e.high f.high h }

pub earlier_else : (e f : Edge) → is_below e.high f.high ≡ false → IsEarlierHigh e f f.high
earlier_else e f h = record { one = inr refl; to_e = below_false e.high f.high h; to_f = self_upto f.high.x f.high.y }

pub whole_lowest : (p : Point) → IsLowest (whole p)
whole_lowest p = λ d dx dy dm. eq-one_of_dvd-one dm

both_equal : (a b p q : ℤ) → (int_eq a p && int_eq b q) ≡ true → (p ≡ a) × (q ≡ b)
both_equal a b p q h = grind (arith, ints)

either_true : (a b : Bool) → IsTrue (a || b) → (a ≡ true) ⊎ (b ≡ true)
either_true true b h = inl refl
either_true false b h = inr h

end_test : (ax ay bx by px py : ℤ) → IsTrue ((int_eq ax px && int_eq ay py) || (int_eq bx px && int_eq by py)) → ((px ≡ ax) × (py ≡ ay)) ⊎ ((px ≡ bx) × (py ≡ by))
end_test ax ay bx by px py h = elim (either_true (int_eq ax px && int_eq ay py) (int_eq bx px && int_eq by py) h) [ inl k ↦ inl (both_equal ax ay px py k) | inr k ↦ inr (both_equal bx by px py k) ]

end_test_back : (ax ay bx by px py : ℤ) → ((px ≡ ax) × (py ≡ ay)) ⊎ ((px ≡ bx) × (py ≡ by)) → IsTrue ((int_eq ax px && int_eq ay py) || (int_eq bx px && int_eq by py))
end_test_back ax ay bx by px py h = grind (arith, ints)

pub is_end_test : (e : Edge) (p : Point) → IsTrue (is_end_of e p) ↔ IsEnd e (whole p)
is_end_test e p =
    let to : IsTrue (is_end_of e p) → IsEnd e (whole p) = λ h. elim (end_test e.low.x e.low.y e.high.x e.high.y p.x p.y h) [
      | inl k ↦ at_low (record { x = k.0 ∙ sym (unit_times e.low.x); y = k.1 ∙ sym (unit_times e.low.y) })
      | inr k ↦ at_high (record { x = k.0 ∙ sym (unit_times e.high.x); y = k.1 ∙ sym (unit_times e.high.y) })
    ] in
    let back : IsEnd e (whole p) → IsTrue (is_end_of e p) = λ h. end_test_back e.low.x e.low.y e.high.x e.high.y p.x p.y (elim h [
      | at_low k ↦ inl (k.x ∙ unit_times e.low.x, k.y ∙ unit_times e.low.y)
      | at_high k ↦ inr (k.x ∙ unit_times e.high.x, k.y ∙ unit_times e.high.y)
    ]) in
    (to, back)

meeting_test : (a b c d : Bool) (A B C D : Type 0) → IsTrue a ↔ A → IsTrue b ↔ B → IsTrue c ↔ C → IsTrue d ↔ D → IsTrue ((a && b) && not (c && d)) ↔ (A × B × ¬ (C × D))
meeting_test true true true true A B C D ea eb ec ed = ((λ h. absurd (true≢false (sym h))), λ h. absurd (h.2 (ec.0 refl, ed.0 refl)))
meeting_test true true true false A B C D ea eb ec ed = ((λ h. (ea.0 refl, eb.0 refl, λ k. true≢false (sym (ed.1 k.1)))), λ h. refl)
meeting_test true true false d A B C D ea eb ec ed = ((λ h. (ea.0 refl, eb.0 refl, λ k. true≢false (sym (ec.1 k.0)))), λ h. refl)
meeting_test true false c d A B C D ea eb ec ed = ((λ h. absurd (true≢false (sym h))), λ h. eb.1 h.1)
meeting_test false b c d A B C D ea eb ec ed = ((λ h. absurd (true≢false (sym h))), λ h. ea.1 h.0)

pub is_meeting_test : (e f : Edge) (p : Point) (a b c d : Bool) → IsTrue a ↔ On e (whole p) → IsTrue b ↔ On f (whole p) → IsTrue c ↔ IsEnd e (whole p) → IsTrue d ↔ IsEnd f (whole p) → IsTrue ((a && b) && not (c && d)) ↔ IsMeeting e f (whole p)
is_meeting_test e f p a b c d ea eb ec ed =
    let t = meeting_test a b c d (On e (whole p)) (On f (whole p)) (IsEnd e (whole p)) (IsEnd f (whole p)) ea eb ec ed in
    ((λ h. (let k = t.0 h in record { real = omega (arith, lin); on_e = k.0; on_f = k.1; no_shared_end = k.2 })), λ m. t.1 (m.on_e, m.on_f, m.no_shared_end))
