-- What is said of a spot holds for each of its spellings.
use Rattle.std.proofs.Common.{◌≡◌, ◌⊎◌, inl, inr, refl, sym, ◌∙◌, ap, arith, [], ◌∷◌, ℤ, pos, ◌+ℤ◌, ◌-ℤ◌, ◌*ℤ◌, ◌≤ℤ◌, ◌<ℤ◌}
use Rattle.std.specs.Int.{int_min, int_max}
use Rattle.std.proofs.lemmas.Int.{clamps}
use Rattle.plane_edge.specs.declared.edge.Edge.{Edge}
use Rattle.plane_edge.specs.declared.point.Point.{Point}
use Rattle.plane_edge.specs.declared.spot.Spot.{Spot}
use Rattle.plane_edge.specs.Plane.{On, side_of, IsAt, IsEnd, Same}
use Rattle.plane_edge.specs.Plane.IsEnd.{at_low, at_high}
use Rattle.whole_ring.proofs.Laws.{*ℤ_comm, zero-*ℤ}
use Rattle.whole_ring.proofs.Ring.{ring, var, ◌⊕◌, ◌⊖◌, ◌⊗◌}
use Rattle.whole_ring.proofs.Signs.{lin, zero-cancel, le-mul, le-cancel, same-cancel}

pub same-swap : {s t : Spot} → Same s t → Same t s
same-swap h = record { x = sym h.x; y = sym h.y }

abbrev pub form : Edge → ℤ → ℤ → ℤ → ℤ
form e a b c = (e.low.x *ℤ c -ℤ a) *ℤ (e.high.y -ℤ e.low.y) +ℤ (e.high.x -ℤ e.low.x) *ℤ (b -ℤ e.low.y *ℤ c)

pub side-scaled : (e : Edge) (a b c n : ℤ) → form e a b c *ℤ n ≡ form e (a *ℤ n) (b *ℤ n) (c *ℤ n)
side-scaled e a b c n = ring (e.low.x ∷ e.low.y ∷ e.high.x ∷ e.high.y ∷ a ∷ b ∷ c ∷ n ∷ [])
    (((var 0 ⊗ var 6 ⊖ var 4) ⊗ (var 3 ⊖ var 1) ⊕ (var 2 ⊖ var 0) ⊗ (var 5 ⊖ var 1 ⊗ var 6)) ⊗ var 7)
    ((var 0 ⊗ (var 6 ⊗ var 7) ⊖ var 4 ⊗ var 7) ⊗ (var 3 ⊖ var 1) ⊕ (var 2 ⊖ var 0) ⊗ (var 5 ⊗ var 7 ⊖ var 1 ⊗ (var 6 ⊗ var 7))) refl

pub side-same : (e : Edge) (s t : Spot) → Same s t → side_of e s *ℤ t.m ≡ side_of e t *ℤ s.m
side-same e s t h =
    side-scaled e s.x s.y s.m t.m
    ∙ ap (λ a. form e a (s.y *ℤ t.m) (s.m *ℤ t.m)) h.x
    ∙ ap (λ b. form e (t.x *ℤ s.m) b (s.m *ℤ t.m)) h.y
    ∙ ap (λ c. form e (t.x *ℤ s.m) (t.y *ℤ s.m) c) (*ℤ_comm s.m t.m)
    ∙ sym (side-scaled e t.x t.y t.m s.m)

turn : (k m n : ℤ) → n *ℤ (k *ℤ m) ≡ m *ℤ (k *ℤ n)
turn k m n = ring (k ∷ m ∷ n ∷ []) (var 2 ⊗ (var 0 ⊗ var 1)) (var 1 ⊗ (var 0 ⊗ var 2)) refl

-- an order with the whole number k
pub above-same : (k x m y n : ℤ) → pos 0 <ℤ m → pos 0 <ℤ n → x *ℤ n ≡ y *ℤ m → (k *ℤ m) ≤ℤ x → (k *ℤ n) ≤ℤ y
above-same k x m y n hm hn e h =
    let p = le-mul n (k *ℤ m) x (omega (arith, lin)) h in
    let q : (m *ℤ (k *ℤ n)) ≤ℤ (m *ℤ y) = omega (arith, lin, turn k m n, *ℤ_comm n x, *ℤ_comm m y) in
    le-cancel m (k *ℤ n) y hm q

pub below-same : (k x m y n : ℤ) → pos 0 <ℤ m → pos 0 <ℤ n → x *ℤ n ≡ y *ℤ m → x ≤ℤ (k *ℤ m) → y ≤ℤ (k *ℤ n)
below-same k x m y n hm hn e h =
    let p = le-mul n x (k *ℤ m) (omega (arith, lin)) h in
    let q : (m *ℤ y) ≤ℤ (m *ℤ (k *ℤ n)) = omega (arith, lin, turn k m n, *ℤ_comm n x, *ℤ_comm m y) in
    le-cancel m y (k *ℤ n) hm q

pub at-same : (k x m y n : ℤ) → pos 0 <ℤ m → x *ℤ n ≡ y *ℤ m → x ≡ k *ℤ m → y ≡ k *ℤ n
at-same k x m y n hm e h =
    same-cancel m y (k *ℤ n) hm (*ℤ_comm m y ∙ sym e ∙ ap (λ z. z *ℤ n) h ∙ *ℤ_comm (k *ℤ m) n ∙ turn k m n)

pub min-split : (a b x : ℤ) → int_min a b ≤ℤ x → (a ≤ℤ x) ⊎ (b ≤ℤ x)
min-split a b x h = grind (arith, lin, clamps)

pub max-split : (a b x : ℤ) → x ≤ℤ int_max a b → (x ≤ℤ a) ⊎ (x ≤ℤ b)
max-split a b x h = grind (arith, lin, clamps)

pub min-join : (a b x : ℤ) → (a ≤ℤ x) ⊎ (b ≤ℤ x) → int_min a b ≤ℤ x
min-join a b x h = omega (arith, lin, clamps)

pub max-join : (a b x : ℤ) → (x ≤ℤ a) ⊎ (x ≤ℤ b) → x ≤ℤ int_max a b
max-join a b x h = omega (arith, lin, clamps)

pub On-same : (e : Edge) (s t : Spot) → pos 0 <ℤ s.m → pos 0 <ℤ t.m → Same s t → On e s → On e t
On-same e s t hs ht h o = record {
  collinear = zero-cancel s.m (side_of e t) hs (*ℤ_comm s.m (side_of e t) ∙ sym (side-same e s t h) ∙ ap (λ z. z *ℤ t.m) o.collinear ∙ zero-*ℤ t.m);
  from_low = above-same e.low.y s.y s.m t.y t.m hs ht h.y o.from_low;
  to_high = below-same e.high.y s.y s.m t.y t.m hs ht h.y o.to_high;
  from_left = min-join (e.low.x *ℤ t.m) (e.high.x *ℤ t.m) t.x (elim (min-split (e.low.x *ℤ s.m) (e.high.x *ℤ s.m) s.x o.from_left)
      [ inl k ↦ inl (above-same e.low.x s.x s.m t.x t.m hs ht h.x k) | inr k ↦ inr (above-same e.high.x s.x s.m t.x t.m hs ht h.x k) ]);
  to_right = max-join (e.low.x *ℤ t.m) (e.high.x *ℤ t.m) t.x (elim (max-split (e.low.x *ℤ s.m) (e.high.x *ℤ s.m) s.x o.to_right)
      [ inl k ↦ inl (below-same e.low.x s.x s.m t.x t.m hs ht h.x k) | inr k ↦ inr (below-same e.high.x s.x s.m t.x t.m hs ht h.x k) ]);
}

pub IsAt-same : (p : Point) (s t : Spot) → pos 0 <ℤ s.m → Same s t → IsAt p s → IsAt p t
IsAt-same p s t hs h a = record { x = at-same p.x s.x s.m t.x t.m hs h.x a.x; y = at-same p.y s.y s.m t.y t.m hs h.y a.y }

pub IsEnd-same : (e : Edge) (s t : Spot) → pos 0 <ℤ s.m → Same s t → IsEnd e s → IsEnd e t
IsEnd-same e s t hs h (at_low a) = at_low (IsAt-same e.low s t hs h a)
IsEnd-same e s t hs h (at_high a) = at_high (IsAt-same e.high s t hs h a)
