-- Where one of two edges that do not meet passes the other.
use Rattle.std.proofs.Common.{◌≡◌, ◌≢◌, ◌⊎◌, inl, inr, refl, sym, ◌∙◌, ap, subst, arith, Bool, true, false, true≢false, ◌&&◌, ◌||◌, [], ◌∷◌, ℤ, pos, ◌+ℤ◌, ◌-ℤ◌, ◌*ℤ◌, ◌≤ℤ◌, ◌<ℤ◌}
use Rattle.std.specs.Ordering.{int_eq}
use Rattle.std.proofs.lemmas.Int.{ints}
use Rattle.plane_edge.specs.declared.edge.Edge.{Edge}
use Rattle.plane_edge.specs.declared.point.Point.{Point}
use Rattle.plane_edge.specs.declared.spot.Spot.{Spot}
use Rattle.plane_edge.specs.Edges.{is_same_point}
use Rattle.plane_edge.specs.Line.{whole, is_end_of}
use Rattle.plane_edge.specs.Middle.{middle_of}
use Rattle.plane_edge.specs.Plane.{On, IsAt, IsEnd, IsMeeting, Same, side_of, run, rise, turn, along}
use Rattle.plane_edge.specs.Plane.IsEnd.{at_low, at_high}
use Rattle.plane_edge.proofs.EndLemmas.{not_both}
use Rattle.plane_edge.proofs.MeetLemmas.{rises, On-along}
use Rattle.plane_edge.proofs.OrderLemmas.{same_points_equal, same_edges_equal, same_point_itself}
use Rattle.plane_edge.proofs.SameLemmas.{On-same, min-join, max-join}
use Rattle.whole_ring.proofs.Laws.{*ℤ_comm, *ℤ-zero, zero-*ℤ}
use Rattle.whole_ring.proofs.Ring.{Poly, ring, var, con, ◌⊕◌, ◌⊖◌, ◌⊗◌}
use Rattle.whole_ring.proofs.Signs.{lin, either_way, le-mul, le-cancel, pos-mul, same-cancel}
use Rattle.edge_sides.proofs.Parts.{mix, IsNowhereZero}

-- above 0 where the point is to the left of the edge
abbrev pub toward : Edge → Point → ℤ
toward e q = side_of e (whole q)

abbrev pub AreApart : Edge → Edge → Type 0
AreApart e f = (s : Spot) → ¬ IsMeeting e f s

-- ---- identities
abbrev side : Poly → Poly → Poly → Poly → Poly → Poly → Poly → Poly
side a b c d x y m = (a ⊗ m ⊖ x) ⊗ (d ⊖ b) ⊕ (c ⊖ a) ⊗ (y ⊖ b ⊗ m)

abbrev blend : Poly → Poly → Poly → Poly → Poly
blend a b n m = a ⊗ (m ⊖ n) ⊕ b ⊗ n

abbrev E-side : Poly → Poly → Poly → Poly
E-side x y m = side (var 0) (var 1) (var 2) (var 3) x y m

abbrev F-side : Poly → Poly → Poly → Poly
F-side x y m = side (var 4) (var 5) (var 6) (var 7) x y m

abbrev one : Poly
one = con (pos 1)

abbrev two : Poly
two = con (pos 2)

pub side-along : (e f : Edge) (n m : ℤ) → side_of e (along f n m) ≡ mix (toward e f.low) (toward e f.high) n m
side-along e f n m = ring (e.low.x ∷ e.low.y ∷ e.high.x ∷ e.high.y ∷ f.low.x ∷ f.low.y ∷ f.high.x ∷ f.high.y ∷ n ∷ m ∷ [])
    (E-side (var 4 ⊗ var 9 ⊕ var 8 ⊗ (var 6 ⊖ var 4)) (var 5 ⊗ var 9 ⊕ var 8 ⊗ (var 7 ⊖ var 5)) (var 9))
    (blend (E-side (var 4) (var 5) one) (E-side (var 6) (var 7) one) (var 8) (var 9)) refl

pub height-along : (f : Edge) (n m : ℤ) → mix (f.low.y *ℤ pos 2) (f.high.y *ℤ pos 2) n m ≡ pos 2 *ℤ (along f n m).y
height-along f n m = ring (f.low.y ∷ f.high.y ∷ n ∷ m ∷ []) (blend (var 0 ⊗ two) (var 1 ⊗ two) (var 2) (var 3)) (two ⊗ (var 0 ⊗ var 3 ⊕ var 2 ⊗ (var 1 ⊖ var 0))) refl

pub side-turn : (e f : Edge) → toward e f.high ≡ toward e f.low +ℤ turn e f
side-turn e f = ring (e.low.x ∷ e.low.y ∷ e.high.x ∷ e.high.y ∷ f.low.x ∷ f.low.y ∷ f.high.x ∷ f.high.y ∷ [])
    (E-side (var 6) (var 7) one)
    (E-side (var 4) (var 5) one ⊕ ((var 2 ⊖ var 0) ⊗ (var 7 ⊖ var 5) ⊖ (var 3 ⊖ var 1) ⊗ (var 6 ⊖ var 4))) refl

pub turn-swap : (e f : Edge) → turn f e ≡ pos 0 -ℤ turn e f
turn-swap e f = ring (run e ∷ rise e ∷ run f ∷ rise f ∷ []) (var 2 ⊗ var 1 ⊖ var 3 ⊗ var 0) (con (pos 0) ⊖ (var 0 ⊗ var 3 ⊖ var 1 ⊗ var 2)) refl

pub side-middle : (e f : Edge) → side_of f (middle_of e) ≡ toward f e.low +ℤ toward f e.high
side-middle e f = ring (e.low.x ∷ e.low.y ∷ e.high.x ∷ e.high.y ∷ f.low.x ∷ f.low.y ∷ f.high.x ∷ f.high.y ∷ [])
    (F-side (var 0 ⊕ var 2) (var 1 ⊕ var 3) two) (F-side (var 0) (var 1) one ⊕ F-side (var 2) (var 3) one) refl

pub middle-mix : (e f : Edge) → side_of f (middle_of e) *ℤ rise e ≡ pos 0 -ℤ mix (toward e f.low) (toward e f.high) ((e.low.y +ℤ e.high.y) -ℤ f.low.y *ℤ pos 2) (f.high.y *ℤ pos 2 -ℤ f.low.y *ℤ pos 2)
middle-mix e f = ring (e.low.x ∷ e.low.y ∷ e.high.x ∷ e.high.y ∷ f.low.x ∷ f.low.y ∷ f.high.x ∷ f.high.y ∷ [])
    (F-side (var 0 ⊕ var 2) (var 1 ⊕ var 3) two ⊗ (var 3 ⊖ var 1))
    (con (pos 0) ⊖ blend (E-side (var 4) (var 5) one) (E-side (var 6) (var 7) one) ((var 1 ⊕ var 3) ⊖ var 5 ⊗ two) (var 7 ⊗ two ⊖ var 5 ⊗ two)) refl

pub low-mix : (e f : Edge) → toward f e.low *ℤ (rise e *ℤ pos 2) ≡ pos 0 -ℤ mix (toward e f.low) (toward e f.high) (e.low.y *ℤ pos 2 -ℤ f.low.y *ℤ pos 2) (f.high.y *ℤ pos 2 -ℤ f.low.y *ℤ pos 2)
low-mix e f = ring (e.low.x ∷ e.low.y ∷ e.high.x ∷ e.high.y ∷ f.low.x ∷ f.low.y ∷ f.high.x ∷ f.high.y ∷ [])
    (F-side (var 0) (var 1) one ⊗ ((var 3 ⊖ var 1) ⊗ two))
    (con (pos 0) ⊖ blend (E-side (var 4) (var 5) one) (E-side (var 6) (var 7) one) (var 1 ⊗ two ⊖ var 5 ⊗ two) (var 7 ⊗ two ⊖ var 5 ⊗ two)) refl

pub high-mix : (e f : Edge) → toward f e.high *ℤ (rise e *ℤ pos 2) ≡ pos 0 -ℤ mix (toward e f.low) (toward e f.high) (e.high.y *ℤ pos 2 -ℤ f.low.y *ℤ pos 2) (f.high.y *ℤ pos 2 -ℤ f.low.y *ℤ pos 2)
high-mix e f = ring (e.low.x ∷ e.low.y ∷ e.high.x ∷ e.high.y ∷ f.low.x ∷ f.low.y ∷ f.high.x ∷ f.high.y ∷ [])
    (F-side (var 2) (var 3) one ⊗ ((var 3 ⊖ var 1) ⊗ two))
    (con (pos 0) ⊖ blend (E-side (var 4) (var 5) one) (E-side (var 6) (var 7) one) (var 3 ⊗ two ⊖ var 5 ⊗ two) (var 7 ⊗ two ⊖ var 5 ⊗ two)) refl

pub side-low : (e : Edge) → toward e e.low ≡ pos 0
side-low e = ring (e.low.x ∷ e.low.y ∷ e.high.x ∷ e.high.y ∷ []) (E-side (var 0) (var 1) one) (con (pos 0)) refl

pub side-high : (e : Edge) → toward e e.high ≡ pos 0
side-high e = ring (e.low.x ∷ e.low.y ∷ e.high.x ∷ e.high.y ∷ []) (E-side (var 2) (var 3) one) (con (pos 0)) refl

-- ---- points
pair_true : (a b c d : ℤ) → a ≡ c → b ≡ d → (int_eq a c && int_eq b d) ≡ true
pair_true a b c d p q = grind (arith, ints)

pub or_true : (a b : Bool) → (a ≡ true) ⊎ (b ≡ true) → (a || b) ≡ true
or_true true b h = refl
or_true false b (inl h) = absurd (true≢false (sym h))
or_true false b (inr h) = h

pub or_false : (a b : Bool) → ¬ (a ≡ true) → ¬ (b ≡ true) → (a || b) ≡ false
or_false true b h k = absurd (h refl)
or_false false true h k = absurd (k refl)
or_false false false h k = refl

pub point_eq : (p q : Point) → p ≡ q → is_same_point p q ≡ true
point_eq p q h = subst (λ (r : Point). is_same_point p r ≡ true) h (same_point_itself p)

-- two points at one spot
pub at_one : (p q : Point) (s : Spot) → pos 0 <ℤ s.m → IsAt p s → IsAt q s → p ≡ q
at_one p q s h i j =
    let x = same-cancel s.m p.x q.x h (*ℤ_comm s.m p.x ∙ sym i.x ∙ j.x ∙ *ℤ_comm q.x s.m) in
    let y = same-cancel s.m p.y q.y h (*ℤ_comm s.m p.y ∙ sym i.y ∙ j.y ∙ *ℤ_comm q.y s.m) in
    same_points_equal p q (pair_true p.x p.y q.x q.y x y)

pub ends_at : (f : Edge) (q : Point) (s : Spot) → pos 0 <ℤ s.m → IsAt q s → IsEnd f s → is_end_of f q ≡ true
ends_at f q s h i (at_low a) = or_true (is_same_point f.low q) (is_same_point f.high q) (inl (point_eq f.low q (at_one f.low q s h a i)))
ends_at f q s h i (at_high a) = or_true (is_same_point f.low q) (is_same_point f.high q) (inr (point_eq f.high q (at_one f.high q s h a i)))

pub not_end : (f : Edge) (q : Point) → f.low ≢ q → f.high ≢ q → is_end_of f q ≡ false
not_end f q h k = or_false (is_same_point f.low q) (is_same_point f.high q) (λ t. h (same_points_equal f.low q t)) (λ t. k (same_points_equal f.high q t))

pub differ : (e : Edge) → e.low ≢ e.high
differ e h = not_both e e.low (same_point_itself e.low) (point_eq e.high e.low (sym h))

both_true : (a b : Bool) → a ≡ true → b ≡ true → (a && b) ≡ true
both_true true b h k = k
both_true false b h k = absurd (true≢false (sym h))

pub edge_eq : (e f : Edge) → e.low ≡ f.low → e.high ≡ f.high → e ≡ f
edge_eq e f h k = same_edges_equal e f (both_true (is_same_point e.low f.low) (is_same_point e.high f.high) (point_eq e.low f.low h) (point_eq e.high f.high k))

-- ---- a spot of a rising edge's line at one of its heights is on the edge
scaled-x : (e : Edge) (s : Spot) → (e.low.x *ℤ (rise e *ℤ s.m) +ℤ (s.y -ℤ e.low.y *ℤ s.m) *ℤ run e) *ℤ s.m ≡ s.x *ℤ (rise e *ℤ s.m) +ℤ s.m *ℤ side_of e s
scaled-x e s = ring (e.low.x ∷ e.low.y ∷ e.high.x ∷ e.high.y ∷ s.x ∷ s.y ∷ s.m ∷ [])
    ((var 0 ⊗ ((var 3 ⊖ var 1) ⊗ var 6) ⊕ (var 5 ⊖ var 1 ⊗ var 6) ⊗ (var 2 ⊖ var 0)) ⊗ var 6)
    (var 4 ⊗ ((var 3 ⊖ var 1) ⊗ var 6) ⊕ var 6 ⊗ E-side (var 4) (var 5) (var 6)) refl

scaled-y : (e : Edge) (s : Spot) → (e.low.y *ℤ (rise e *ℤ s.m) +ℤ (s.y -ℤ e.low.y *ℤ s.m) *ℤ rise e) *ℤ s.m ≡ s.y *ℤ (rise e *ℤ s.m)
scaled-y e s = ring (e.low.y ∷ rise e ∷ s.y ∷ s.m ∷ []) ((var 0 ⊗ (var 1 ⊗ var 3) ⊕ (var 2 ⊖ var 0 ⊗ var 3) ⊗ var 1) ⊗ var 3) (var 2 ⊗ (var 1 ⊗ var 3)) refl

length-times : (a b m : ℤ) → (b -ℤ a) *ℤ m ≡ b *ℤ m -ℤ a *ℤ m
length-times a b m = ring (a ∷ b ∷ m ∷ []) ((var 1 ⊖ var 0) ⊗ var 2) (var 1 ⊗ var 2 ⊖ var 0 ⊗ var 2) refl

on_line : (e : Edge) (s : Spot) → pos 0 <ℤ rise e → pos 0 <ℤ s.m → side_of e s ≡ pos 0 → (e.low.y *ℤ s.m) ≤ℤ s.y → s.y ≤ℤ (e.high.y *ℤ s.m) → On e s
on_line e s r h z low high =
    let t = along e (s.y -ℤ e.low.y *ℤ s.m) (rise e *ℤ s.m) in
    let k = pos-mul (rise e) s.m r h in
    let same : Same t s = record {
      x = scaled-x e s ∙ ap (λ v. s.x *ℤ (rise e *ℤ s.m) +ℤ s.m *ℤ v) z ∙ ring (s.x ∷ s.m ∷ rise e ∷ []) (var 0 ⊗ (var 2 ⊗ var 1) ⊕ var 1 ⊗ con (pos 0)) (var 0 ⊗ (var 2 ⊗ var 1)) refl;
      y = scaled-y e s;
    } in
    On-same e t s k h same (On-along e (s.y -ℤ e.low.y *ℤ s.m) (rise e *ℤ s.m) (omega (arith, lin)) (omega (arith, lin, length-times e.low.y e.high.y s.m)))

-- ---- between two heights of e at which the edges have no common end, f is nowhere on e
height_from : (h y m z : ℤ) → pos 0 <ℤ m → (h *ℤ m) ≤ℤ (pos 2 *ℤ z) → z ≡ y *ℤ m → h ≤ℤ (y *ℤ pos 2)
height_from h y m z p l e =
    let t : pos 2 *ℤ (y *ℤ m) ≡ m *ℤ (y *ℤ pos 2) = ring (y ∷ m ∷ []) (two ⊗ (var 0 ⊗ var 1)) (var 1 ⊗ (var 0 ⊗ two)) refl in
    le-cancel m h (y *ℤ pos 2) p (omega (arith, lin, *ℤ_comm m h, ap (λ v. pos 2 *ℤ v) e))

height_to : (k y m z : ℤ) → pos 0 <ℤ m → (pos 2 *ℤ z) ≤ℤ (k *ℤ m) → z ≡ y *ℤ m → (y *ℤ pos 2) ≤ℤ k
height_to k y m z p l e =
    let t : pos 2 *ℤ (y *ℤ m) ≡ m *ℤ (y *ℤ pos 2) = ring (y ∷ m ∷ []) (two ⊗ (var 0 ⊗ var 1)) (var 1 ⊗ (var 0 ⊗ two)) refl in
    le-cancel m (y *ℤ pos 2) k p (omega (arith, lin, *ℤ_comm m k, ap (λ v. pos 2 *ℤ v) e))

above_low : (h y m z : ℤ) → pos 0 <ℤ m → (y *ℤ pos 2) ≤ℤ h → (h *ℤ m) ≤ℤ (pos 2 *ℤ z) → (y *ℤ m) ≤ℤ z
above_low h y m z p q l =
    let t : m *ℤ (y *ℤ pos 2) ≡ pos 2 *ℤ (y *ℤ m) = ring (y ∷ m ∷ []) (var 1 ⊗ (var 0 ⊗ two)) (two ⊗ (var 0 ⊗ var 1)) refl in
    let c = le-mul m (y *ℤ pos 2) h (omega (arith, lin)) q in
    le-cancel (pos 2) (y *ℤ m) z (omega (arith, lin)) (omega (arith, lin, *ℤ_comm m h))

below_high : (k y m z : ℤ) → pos 0 <ℤ m → k ≤ℤ (y *ℤ pos 2) → (pos 2 *ℤ z) ≤ℤ (k *ℤ m) → z ≤ℤ (y *ℤ m)
below_high k y m z p q l =
    let t : m *ℤ (y *ℤ pos 2) ≡ pos 2 *ℤ (y *ℤ m) = ring (y ∷ m ∷ []) (var 1 ⊗ (var 0 ⊗ two)) (two ⊗ (var 0 ⊗ var 1)) refl in
    let c = le-mul m k (y *ℤ pos 2) (omega (arith, lin)) q in
    le-cancel (pos 2) z (y *ℤ m) (omega (arith, lin)) (omega (arith, lin, *ℤ_comm m k))

pub nowhere : (e f : Edge) (h k : ℤ) → AreApart e f → pos 0 <ℤ rise e → (e.low.y *ℤ pos 2) ≤ℤ h → k ≤ℤ (e.high.y *ℤ pos 2) →
    (h ≤ℤ (e.low.y *ℤ pos 2) → is_end_of f e.low ≡ false) → ((e.high.y *ℤ pos 2) ≤ℤ k → is_end_of f e.high ≡ false) →
    IsNowhereZero (f.low.y *ℤ pos 2) (f.high.y *ℤ pos 2) h k (toward e f.low) (toward e f.high)
nowhere e f h k apart r ph pk no_low no_high n m p z =
    let s = along f n m in
    let y = height-along f n m in
    let from : (h *ℤ m) ≤ℤ (pos 2 *ℤ s.y) = subst (λ (v : ℤ). (h *ℤ m) ≤ℤ v) y p.low in
    let to : (pos 2 *ℤ s.y) ≤ℤ (k *ℤ m) = subst (λ (v : ℤ). v ≤ℤ (k *ℤ m)) y p.high in
    apart s (record {
      real = p.real;
      on_e = on_line e s r p.real (side-along e f n m ∙ z) (above_low h e.low.y m s.y p.real ph from) (below_high k e.high.y m s.y p.real pk to);
      on_f = On-along f n m p.from p.to;
      no_shared_end = λ b. ends from to b.0 b.1;
    })
  where
    ends : (h *ℤ m) ≤ℤ (pos 2 *ℤ (along f n m).y) → (pos 2 *ℤ (along f n m).y) ≤ℤ (k *ℤ m) → IsEnd e (along f n m) → IsEnd f (along f n m) → ⊥
    ends from to (at_low i) j = true≢false (sym (ends_at f e.low (along f n m) p.real i j) ∙ no_low (height_from h e.low.y m (along f n m).y p.real from i.y))
    ends from to (at_high i) j = true≢false (sym (ends_at f e.high (along f n m) p.real i j) ∙ no_high (height_to k e.high.y m (along f n m).y p.real to i.y))

-- ---- an end of f on e that is no end of e
share : (e f : Edge) (n p m : ℤ) (q : Point) → AreApart e f → pos 0 <ℤ m → pos 0 ≤ℤ n → n ≤ℤ m → pos 0 ≤ℤ p → p ≤ℤ m →
    (along e n m).x ≡ (along f p m).x → (along e n m).y ≡ (along f p m).y → IsAt q (along f p m) → is_end_of e q ≡ false → ⊥
share e f n p m q apart hm n0 n1 p0 p1 x y at other =
    apart (along f p m) (record {
      real = hm;
      on_e = On-same e (along e n m) (along f p m) hm hm (record { x = ap (λ v. v *ℤ m) x; y = ap (λ v. v *ℤ m) y }) (On-along e n m n0 n1);
      on_f = On-along f p m p0 p1;
      no_shared_end = λ b. true≢false (sym (ends_at e q (along f p m) hm at b.0) ∙ other);
    })

whole_way : (a b m : ℤ) → a *ℤ m +ℤ m *ℤ (b -ℤ a) ≡ b *ℤ m
whole_way a b m = ring (a ∷ b ∷ m ∷ []) (var 0 ⊗ var 2 ⊕ var 2 ⊗ (var 1 ⊖ var 0)) (var 1 ⊗ var 2) refl

no_way : (a d m : ℤ) → a *ℤ m +ℤ pos 0 *ℤ d ≡ a *ℤ m
no_way a d m = ring (a ∷ d ∷ m ∷ []) (var 0 ⊗ var 2 ⊕ con (pos 0) ⊗ var 1) (var 0 ⊗ var 2) refl

-- part of the way up, and f is as that part
overlap_low : (e f : Edge) (n m : ℤ) → AreApart e f → e ≢ f → e.low ≡ f.low → pos 0 <ℤ m → pos 0 ≤ℤ n → n ≤ℤ m → run f *ℤ m ≡ n *ℤ run e → rise f *ℤ m ≡ n *ℤ rise e → ⊥
overlap_low e f n m apart other low hm n0 n1 x y =
    let go : (a b d g : ℤ) → a ≡ b → d *ℤ m ≡ n *ℤ g → a *ℤ m +ℤ n *ℤ g ≡ b *ℤ m +ℤ m *ℤ d = λ a b d g p q. ap (λ v. v *ℤ m +ℤ n *ℤ g) p ∙ ap (λ v. b *ℤ m +ℤ v) (sym q ∙ *ℤ_comm d m) in
    share e f n m m f.high apart hm n0 n1 (omega (arith, lin)) (omega (arith, lin))
    (go e.low.x f.low.x (run f) (run e) (ap (λ (p : Point). p.x) low) x) (go e.low.y f.low.y (rise f) (rise e) (ap (λ (p : Point). p.y) low) y)
    (record { x = whole_way f.low.x f.high.x m; y = whole_way f.low.y f.high.y m })
    (not_end e f.high (λ q. differ f (sym low ∙ q)) (λ q. other (edge_eq e f low q)))

-- part of the way down
overlap_high : (e f : Edge) (n m : ℤ) → AreApart e f → e ≢ f → e.high ≡ f.high → pos 0 <ℤ m → pos 0 ≤ℤ n → n ≤ℤ m → run f *ℤ m ≡ n *ℤ run e → rise f *ℤ m ≡ n *ℤ rise e → ⊥
overlap_high e f n m apart other high hm n0 n1 x y =
    let go : (a b c d : ℤ) → b ≡ d → (d -ℤ c) *ℤ m ≡ n *ℤ (b -ℤ a) → a *ℤ m +ℤ (m -ℤ n) *ℤ (b -ℤ a) ≡ c *ℤ m +ℤ pos 0 *ℤ (d -ℤ c) = λ a b c d p q.
    (let up : a *ℤ m +ℤ (m -ℤ n) *ℤ (b -ℤ a) ≡ b *ℤ m -ℤ n *ℤ (b -ℤ a) = ring (a ∷ b ∷ n ∷ m ∷ []) (var 0 ⊗ var 3 ⊕ (var 3 ⊖ var 2) ⊗ (var 1 ⊖ var 0)) (var 1 ⊗ var 3 ⊖ var 2 ⊗ (var 1 ⊖ var 0)) refl in
    let down = length-times c d m in
    omega (arith, lin, no_way c (d -ℤ c) m, ap (λ v. v *ℤ m) p)) in
    share e f (m -ℤ n) (pos 0) m f.low apart hm (omega (arith, lin)) (omega (arith, lin)) (omega (arith, lin)) (omega (arith, lin))
    (go e.low.x e.high.x f.low.x f.high.x (ap (λ (p : Point). p.x) high) x) (go e.low.y e.high.y f.low.y f.high.y (ap (λ (p : Point). p.y) high) y)
    (record { x = no_way f.low.x (run f) m; y = no_way f.low.y (rise f) m })
    (not_end e f.low (λ q. other (edge_eq e f q high)) (λ q. differ f (sym q ∙ high)))

-- the shorter of two edges in one direction is as a part of the longer
pub data Parallel (e f : Edge) : Type 0 where
  shorter : (n m : ℤ) → pos 0 <ℤ m → pos 0 ≤ℤ n → n ≤ℤ m → run f *ℤ m ≡ n *ℤ run e → rise f *ℤ m ≡ n *ℤ rise e → Parallel e f
  longer : (n m : ℤ) → pos 0 <ℤ m → pos 0 ≤ℤ n → n ≤ℤ m → run e *ℤ m ≡ n *ℤ run f → rise e *ℤ m ≡ n *ℤ rise f → Parallel e f

zeros : (a b c d : ℤ) → a ≡ pos 0 → b ≡ pos 0 → a *ℤ c ≡ d *ℤ b
zeros a b c d p q = ap (λ v. v *ℤ c) p ∙ zero-*ℤ c ∙ sym (*ℤ-zero d) ∙ ap (λ v. d *ℤ v) (sym q)

no_turn : (a b c d : ℤ) → a *ℤ d -ℤ b *ℤ c ≡ pos 0 → d ≡ pos 0 → pos 0 <ℤ b → pos 0 <ℤ c → ⊥
no_turn a b c d z q h k =
    let p = pos-mul b c h k in
    let w : a *ℤ d ≡ pos 0 = ap (λ v. a *ℤ v) q ∙ *ℤ-zero a in omega (arith, lin)

pub parallel : (e f : Edge) → turn e f ≡ pos 0 → Parallel e f
parallel e f z = elim (rises e) [
  | inl h ↦ elim (rises f) [
    | inl k ↦ elim (either_way (rise f) (rise e)) [
      | inl l ↦ shorter (rise f) (rise e) h (omega (arith, lin)) l (omega (arith, lin, *ℤ_comm (run f) (rise e), *ℤ_comm (rise f) (run e))) refl
      | inr l ↦ longer (rise e) (rise f) k (omega (arith, lin)) (omega (arith, lin)) (omega (arith, lin)) refl
    ]
    | inr k ↦ absurd (no_turn (run e) (rise e) (run f) (rise f) z k.0 h k.1)
  ]
  | inr h ↦ elim (rises f) [
    | inl k ↦ absurd (no_turn (run f) (rise f) (run e) (rise e) (turn-swap e f ∙ ap (λ v. pos 0 -ℤ v) z) h.0 k h.1)
    | inr k ↦ elim (either_way (run f) (run e)) [
      | inl l ↦ shorter (run f) (run e) h.1 (omega (arith, lin)) l refl (zeros (rise f) (rise e) (run e) (run f) k.0 h.0)
      | inr l ↦ longer (run e) (run f) k.1 (omega (arith, lin)) (omega (arith, lin)) refl (zeros (rise e) (rise f) (run f) (run e) h.0 k.0)
    ]
  ]
]

-- two different edges from one point do not go in one direction, nor two edges to one point
pub twins_low : (e f : Edge) → AreApart e f → AreApart f e → e ≢ f → e.low ≡ f.low → turn e f ≢ pos 0
twins_low e f apart back other low z = elim (parallel e f z) [
  | shorter n m hm n0 n1 x y ↦ overlap_low e f n m apart other low hm n0 n1 x y
  | longer n m hm n0 n1 x y ↦ overlap_low f e n m back (λ q. other (sym q)) (sym low) hm n0 n1 x y
]

pub twins_high : (e f : Edge) → AreApart e f → AreApart f e → e ≢ f → e.high ≡ f.high → turn e f ≢ pos 0
twins_high e f apart back other high z = elim (parallel e f z) [
  | shorter n m hm n0 n1 x y ↦ overlap_high e f n m apart other high hm n0 n1 x y
  | longer n m hm n0 n1 x y ↦ overlap_high f e n m back (λ q. other (sym q)) (sym high) hm n0 n1 x y
]

-- ---- an edge that passes a level edge from its low end on, to its high end included
level_side : (f : Edge) (x y : ℤ) → (f.low.x *ℤ pos 1 -ℤ x) *ℤ rise f +ℤ run f *ℤ (y -ℤ f.low.y *ℤ pos 1) ≡ (f.low.x *ℤ rise f +ℤ (y -ℤ f.low.y) *ℤ run f) -ℤ x *ℤ rise f
level_side f x y = ring (f.low.x ∷ f.low.y ∷ run f ∷ rise f ∷ x ∷ y ∷ []) ((var 0 ⊗ one ⊖ var 4) ⊗ var 3 ⊕ var 2 ⊗ (var 5 ⊖ var 1 ⊗ one)) ((var 0 ⊗ var 3 ⊕ (var 5 ⊖ var 1) ⊗ var 2) ⊖ var 4 ⊗ var 3) refl

level_height : (l y r : ℤ) → l *ℤ r +ℤ (y -ℤ l) *ℤ r ≡ y *ℤ r
level_height l y r = ring (l ∷ y ∷ r ∷ []) (var 0 ⊗ var 2 ⊕ (var 1 ⊖ var 0) ⊗ var 2) (var 1 ⊗ var 2) refl

collinear : (a x b r z w : ℤ) → r ≡ pos 0 → z ≡ w → (a -ℤ x) *ℤ r +ℤ b *ℤ (z -ℤ w) ≡ pos 0
collinear a x b r z w p q =
    let c : (a -ℤ x) *ℤ r ≡ pos 0 = ap (λ v. (a -ℤ x) *ℤ v) p ∙ *ℤ-zero (a -ℤ x) in
    let d : b *ℤ (z -ℤ w) ≡ pos 0 = ap (λ v. b *ℤ v) (omega (arith, lin)) ∙ *ℤ-zero b in
    omega (arith, lin)

pub not_through : (e f : Edge) → AreApart e f → e.low.y ≡ e.high.y → f.low.y ≤ℤ e.low.y → e.low.y <ℤ f.high.y → pos 0 <ℤ toward f e.low → toward f e.high ≤ℤ pos 0 → (toward f e.high ≡ pos 0 → is_end_of f e.high ≡ false) → ⊥
not_through e f apart level from to left right clear =
    let n = e.low.y -ℤ f.low.y in
    let m = rise f in
    let s = along f n m in
    let hm : pos 0 <ℤ m = omega (arith, lin) in
    let a = level_side f e.low.x e.low.y in
    let b = level_side f e.high.x e.high.y in
    let same : (f.low.x *ℤ rise f +ℤ (e.high.y -ℤ f.low.y) *ℤ run f) ≡ s.x = ap (λ v. f.low.x *ℤ rise f +ℤ (v -ℤ f.low.y) *ℤ run f) (sym level) in
    let y : s.y ≡ e.low.y *ℤ m = level_height f.low.y e.low.y m in
    let y' : s.y ≡ e.high.y *ℤ m = y ∙ ap (λ v. v *ℤ m) level in
    let low : (e.low.x *ℤ m) <ℤ s.x = omega (arith, lin) in
    let high : s.x ≤ℤ (e.high.x *ℤ m) = omega (arith, lin) in
    let ends : IsEnd e s → IsEnd f s → ⊥ = λ i j. elim i [
      | at_low k ↦ (let q = k.x in omega (arith, lin))
      | at_high k ↦ (let q = k.x in true≢false (sym (ends_at f e.high s hm k j) ∙ clear (omega (arith, lin))))
    ] in
    apart s (record {
      real = hm;
      on_e = record {
        collinear = collinear (e.low.x *ℤ m) s.x (run e) (rise e) s.y (e.low.y *ℤ m) (omega (arith, lin)) y;
        from_low = omega (arith, lin);
        to_high = omega (arith, lin);
        from_left = min-join (e.low.x *ℤ m) (e.high.x *ℤ m) s.x (inl (omega (arith, lin)));
        to_right = max-join (e.low.x *ℤ m) (e.high.x *ℤ m) s.x (inr high);
      };
      on_f = On-along f n m (omega (arith, lin)) (omega (arith, lin));
      no_shared_end = λ b. ends b.0 b.1;
    })
