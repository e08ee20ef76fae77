-- Between two neighbouring heights the order of the edges does not change.
use Rattle.std.proofs.Common.{◌≡◌, ◌≢◌, inl, inr, refl, sym, ◌∙◌, ap, arith, [], ◌∷◌, ℤ, pos, ◌+ℤ◌, ◌-ℤ◌, ◌*ℤ◌, ◌≤ℤ◌, ◌<ℤ◌}
use Rattle.plane_edge.specs.declared.edge.Edge.{Edge}
use Rattle.plane_edge.specs.declared.spot.Spot.{Spot}
use Rattle.plane_edge.specs.Plane.{On, IsEnd, Same, IsMeeting, run, rise, along}
use Rattle.plane_edge.specs.Plane.IsEnd.{at_low, at_high}
use Rattle.plane_strip.specs.Strip.{InStrip, NoEndBetween, Spans, place, lead}
use Rattle.whole_ring.proofs.Laws.{*ℤ_comm, *ℤ_assoc}
use Rattle.whole_ring.proofs.Ring.{ring, Poly, var, con, ◌⊕◌, ◌⊖◌, ◌⊗◌}
use Rattle.whole_ring.proofs.Signs.{lin, sign, none, above, below, le-mul, lt-mul, pos-mul, same-cancel}
use Rattle.plane_edge.proofs.SameLemmas.{On-same, same-swap}
use Rattle.plane_edge.proofs.MeetLemmas.{On-along}

-- ---- the edges that a strip's heights cross
pub spans : (h k : ℤ) (e : Edge) (y m : ℤ) → InStrip h k y m → NoEndBetween h k e → (e.low.y *ℤ m) ≤ℤ y → y <ℤ (e.high.y *ℤ m) → Spans h k e
spans h k e y m s n low high = record {
  low = elim n.low_end [ inl c ↦ c | inr c ↦ let w = le-mul m k e.low.y (omega (arith, lin, s.real)) c in absurd (omega (arith, lin, s.high, *ℤ_comm m k, *ℤ_comm m e.low.y)) ];
  high = elim n.high_end [ inr c ↦ c | inl c ↦ let w = le-mul m e.high.y h (omega (arith, lin, s.real)) c in absurd (omega (arith, lin, s.low, *ℤ_comm m h, *ℤ_comm m e.high.y)) ];
}

pub spanned : (h k : ℤ) (e : Edge) (y m : ℤ) → InStrip h k y m → Spans h k e → ((e.low.y *ℤ m) ≤ℤ y) × (y <ℤ (e.high.y *ℤ m))
spanned h k e y m s p =
    let v = le-mul m e.low.y h (omega (arith, lin, s.real)) p.low in
    let w = le-mul m k e.high.y (omega (arith, lin, s.real)) p.high in
    (omega (arith, lin, s.low, *ℤ_comm m h, *ℤ_comm m e.low.y), omega (arith, lin, s.high, *ℤ_comm m k, *ℤ_comm m e.high.y))

-- ---- places
pub side-place : (e : Edge) (x y m : ℤ) → (e.low.x *ℤ m -ℤ x) *ℤ rise e +ℤ run e *ℤ (y -ℤ e.low.y *ℤ m) ≡ place e y m -ℤ x *ℤ rise e
side-place e x y m = ring (e.low.x ∷ e.low.y ∷ run e ∷ rise e ∷ x ∷ y ∷ m ∷ [])
    ((var 0 ⊗ var 6 ⊖ var 4) ⊗ var 3 ⊕ var 2 ⊗ (var 5 ⊖ var 1 ⊗ var 6))
    (var 0 ⊗ (var 3 ⊗ var 6) ⊕ (var 5 ⊖ var 1 ⊗ var 6) ⊗ var 2 ⊖ var 4 ⊗ var 3) refl

-- the lead is linear in the height
pub lead-mix : (e f : Edge) (y m z n a b : ℤ) → lead e f (y *ℤ a +ℤ z *ℤ b) (m *ℤ a +ℤ n *ℤ b) ≡ lead e f y m *ℤ a +ℤ lead e f z n *ℤ b
lead-mix e f y m z n a b =
    let X0 = var 0 in let Y0 = var 1 in let DX = var 2 in let DY = var 3 in let U0 = var 4 in let V0 = var 5 in let DU = var 6 in let DV = var 7 in
    let P : Poly → Poly → Poly = λ v w. X0 ⊗ (DY ⊗ w) ⊕ (v ⊖ Y0 ⊗ w) ⊗ DX in
    let Q : Poly → Poly → Poly = λ v w. U0 ⊗ (DV ⊗ w) ⊕ (v ⊖ V0 ⊗ w) ⊗ DU in
    let L : Poly → Poly → Poly = λ v w. P v w ⊗ DV ⊖ Q v w ⊗ DY in
    ring (e.low.x ∷ e.low.y ∷ run e ∷ rise e ∷ f.low.x ∷ f.low.y ∷ run f ∷ rise f ∷ y ∷ m ∷ z ∷ n ∷ a ∷ b ∷ [])
    (L (var 8 ⊗ var 12 ⊕ var 10 ⊗ var 13) (var 9 ⊗ var 12 ⊕ var 11 ⊗ var 13))
    (L (var 8) (var 9) ⊗ var 12 ⊕ L (var 10) (var 11) ⊗ var 13) refl

pub lead-swap : (e f : Edge) (y m : ℤ) → lead f e y m ≡ pos 0 -ℤ lead e f y m
lead-swap e f y m = ring (place e y m ∷ place f y m ∷ rise e ∷ rise f ∷ []) (var 1 ⊗ var 2 ⊖ var 0 ⊗ var 3) (con (pos 0) ⊖ (var 0 ⊗ var 3 ⊖ var 1 ⊗ var 2)) refl

-- ---- two edges that are at one place at a height strictly within both meet there
abbrev pub at_height : Edge → ℤ → ℤ → Spot
at_height e y m = along e (y -ℤ e.low.y *ℤ m) (rise e *ℤ m)

pub height-y : (e : Edge) (y m : ℤ) → (at_height e y m).y ≡ y *ℤ rise e
height-y e y m = ring (e.low.y ∷ rise e ∷ y ∷ m ∷ []) (var 0 ⊗ (var 1 ⊗ var 3) ⊕ (var 2 ⊖ var 0 ⊗ var 3) ⊗ var 1) (var 2 ⊗ var 1) refl

pub up : (h k : ℤ) (e : Edge) → h <ℤ k → Spans h k e → pos 0 <ℤ rise e
up h k e h<k p = omega (arith, lin, p.low, p.high)

full : (e : Edge) (y m : ℤ) → y <ℤ (e.high.y *ℤ m) → (y -ℤ e.low.y *ℤ m) ≤ℤ (rise e *ℤ m)
full e y m h = let w : rise e *ℤ m ≡ e.high.y *ℤ m -ℤ e.low.y *ℤ m = ring (e.high.y ∷ e.low.y ∷ m ∷ []) ((var 0 ⊖ var 1) ⊗ var 2) (var 0 ⊗ var 2 ⊖ var 1 ⊗ var 2) refl in omega (arith, lin)

On-at_height : (h k : ℤ) (e : Edge) (y m : ℤ) → InStrip h k y m → Spans h k e → On e (at_height e y m)
On-at_height h k e y m s p =
    let c = spanned h k e y m s p in
    On-along e (y -ℤ e.low.y *ℤ m) (rise e *ℤ m) (omega (arith, lin, c.0)) (full e y m c.1)

same_height : (e f : Edge) (y m : ℤ) → lead e f y m ≡ pos 0 → Same (at_height e y m) (at_height f y m)
same_height e f y m z = record {
  x = let w : place e y m *ℤ rise f ≡ place f y m *ℤ rise e = omega (arith, lin) in
      sym (*ℤ_assoc (place e y m) (rise f) m) ∙ ap (λ v. v *ℤ m) w ∙ *ℤ_assoc (place f y m) (rise e) m;
  y = ap (λ v. v *ℤ (rise f *ℤ m)) (height-y e y m) ∙ ring (y ∷ rise e ∷ rise f ∷ m ∷ []) (var 0 ⊗ var 1 ⊗ (var 2 ⊗ var 3)) (var 0 ⊗ var 2 ⊗ (var 1 ⊗ var 3)) refl ∙ sym (ap (λ v. v *ℤ (rise e *ℤ m)) (height-y f y m));
}

-- it is no end, strictly within
not_an_end : (h k : ℤ) (e : Edge) (y m : ℤ) → h <ℤ k → InStrip h k y m → (h *ℤ m) <ℤ y → Spans h k e → ¬ IsEnd e (at_height e y m)
not_an_end h k e y m h<k s strict p (at_low a) =
    let r = up h k e h<k p in
    let g : rise e *ℤ y ≡ rise e *ℤ (e.low.y *ℤ m) = *ℤ_comm (rise e) y ∙ sym (height-y e y m) ∙ a.y ∙ ring (e.low.y ∷ rise e ∷ m ∷ []) (var 0 ⊗ (var 1 ⊗ var 2)) (var 1 ⊗ (var 0 ⊗ var 2)) refl in
    let q = same-cancel (rise e) y (e.low.y *ℤ m) r g in
    let w = le-mul m e.low.y h (omega (arith, lin, s.real)) p.low in
    omega (arith, lin, *ℤ_comm m h, *ℤ_comm m e.low.y)
not_an_end h k e y m h<k s strict p (at_high a) =
    let r = up h k e h<k p in
    let g : rise e *ℤ y ≡ rise e *ℤ (e.high.y *ℤ m) = *ℤ_comm (rise e) y ∙ sym (height-y e y m) ∙ a.y ∙ ring (e.high.y ∷ rise e ∷ m ∷ []) (var 0 ⊗ (var 1 ⊗ var 2)) (var 1 ⊗ (var 0 ⊗ var 2)) refl in
    let q = same-cancel (rise e) y (e.high.y *ℤ m) r g in
    let c = spanned h k e y m s p in
    omega (arith, lin, c.1)

pub apart : (h k : ℤ) (e f : Edge) (y m : ℤ) → h <ℤ k → ((s : Spot) → ¬ IsMeeting e f s) → Spans h k e → Spans h k f → InStrip h k y m → (h *ℤ m) <ℤ y → lead e f y m ≢ pos 0
apart h k e f y m h<k planar p q s strict z =
    let re = pos-mul (rise e) m (up h k e h<k p) s.real in
    let rf = pos-mul (rise f) m (up h k f h<k q) s.real in
    let same = same_height e f y m z in
    planar (at_height e y m) (record {
      real = re;
      on_e = On-at_height h k e y m s p;
      on_f = On-same f (at_height f y m) (at_height e y m) rf re (same-swap same) (On-at_height h k f y m s q);
      no_shared_end = λ b. not_an_end h k e y m h<k s strict p b.0;
    })

mix_zero : (g d : ℤ) → g *ℤ (pos 0 -ℤ d) +ℤ d *ℤ g ≡ pos 0
mix_zero g d = ring (g ∷ d ∷ []) (var 0 ⊗ (con (pos 0) ⊖ var 1) ⊕ var 1 ⊗ var 0) (con (pos 0)) refl

spread : (h m n a b : ℤ) → h *ℤ (m *ℤ a +ℤ n *ℤ b) ≡ a *ℤ (h *ℤ m) +ℤ b *ℤ (h *ℤ n)
spread h m n a b = ring (h ∷ m ∷ n ∷ a ∷ b ∷ []) (var 0 ⊗ (var 1 ⊗ var 3 ⊕ var 2 ⊗ var 4)) (var 3 ⊗ (var 0 ⊗ var 1) ⊕ var 4 ⊗ (var 0 ⊗ var 2)) refl

-- an edge to the right at one height of the strip is to the right at each height strictly within
pub keeps_right : (h k : ℤ) (e f : Edge) (y m z n : ℤ) → h <ℤ k → ((s : Spot) → ¬ IsMeeting e f s) → Spans h k e → Spans h k f → InStrip h k y m → InStrip h k z n → (h *ℤ n) <ℤ z → pos 0 <ℤ lead e f y m → pos 0 <ℤ lead e f z n
keeps_right h k e f y m z n h<k planar p q s t strict g = elim (sign (lead e f z n)) [
  | above d ↦ d
  | none d ↦ absurd (apart h k e f z n h<k planar p q t strict d)
  | below d ↦
      let b = lead e f y m in
      let a = pos 0 -ℤ lead e f z n in
      let ha : pos 0 <ℤ a = omega (arith, lin) in
      let zero : lead e f (y *ℤ a +ℤ z *ℤ b) (m *ℤ a +ℤ n *ℤ b) ≡ pos 0 = lead-mix e f y m z n a b ∙ mix_zero b (lead e f z n) in
      let pm = pos-mul m a s.real ha in
      let pn = pos-mul n b t.real g in
      let l1 = le-mul a (h *ℤ m) y (omega (arith, lin)) s.low in
      let l2 = lt-mul b (h *ℤ n) z g strict in
      let u1 = lt-mul a y (k *ℤ m) ha s.high in
      let u2 = lt-mul b z (k *ℤ n) g t.high in
      let over : (h *ℤ (m *ℤ a +ℤ n *ℤ b)) <ℤ (y *ℤ a +ℤ z *ℤ b) = omega (arith, lin, spread h m n a b, *ℤ_comm y a, *ℤ_comm z b) in
      let under : (y *ℤ a +ℤ z *ℤ b) <ℤ (k *ℤ (m *ℤ a +ℤ n *ℤ b)) = omega (arith, lin, spread k m n a b, *ℤ_comm y a, *ℤ_comm z b) in
      absurd (apart h k e f (y *ℤ a +ℤ z *ℤ b) (m *ℤ a +ℤ n *ℤ b) h<k planar p q (record { real = omega (arith, lin); low = omega (arith, lin); high = under }) over zero)
]
