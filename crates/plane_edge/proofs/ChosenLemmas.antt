-- Two edges have at most one spot of their meeting, of all spots and spellings.
use Rattle.std.proofs.Common.{◌≡◌, ◌⊎◌, inl, inr, refl, sym, ◌∙◌, ap, subst, arith, ℤ, pos, negsuc, ◌*ℤ◌, ◌<ℤ◌, [], ◌∷◌}
use Rattle.plane_edge.specs.declared.edge.Edge.{Edge}
use Rattle.plane_edge.specs.declared.spot.Spot.{Spot}
use Rattle.plane_edge.specs.Line.{IsChosen, IsMeetSpot}
use Rattle.plane_edge.specs.Plane.{Same, IsMeeting, turn, offset, along}
use Rattle.whole_ring.proofs.Ring.{ring, var, con, ◌⊗◌, ◌⊖◌}
use Rattle.whole_ring.proofs.Signs.{lin, sign, same-cancel}
use Rattle.whole_ring.proofs.Signs.Sign.{below, none, above}
use Rattle.plane_edge.proofs.MeetLemmas.{common_is}
use Rattle.plane_edge.proofs.UniqueLemmas.{lowest_unique}

pub spots_equal : (s t : Spot) → (s.x ≡ t.x) × (s.y ≡ t.y) × (s.m ≡ t.m) → s ≡ t
spots_equal s t h =
    ap (λ (x : ℤ). record { x = x; y = s.y; m = s.m }) h.0 ∙ ap (λ (y : ℤ). record { x = t.x; y = y; m = s.m }) h.1 ∙ ap (λ (m : ℤ). record { x = t.x; y = t.y; m = m }) h.2

turned : (a x m : ℤ) → a *ℤ (x *ℤ m) ≡ (x *ℤ a) *ℤ m
turned a x m = ring (a ∷ x ∷ m ∷ []) (var 0 ⊗ (var 1 ⊗ var 2)) (var 1 ⊗ var 0 ⊗ var 2) refl

swapped : (x m n : ℤ) → (x *ℤ m) *ℤ n ≡ (x *ℤ n) *ℤ m
swapped x m n = ring (x ∷ m ∷ n ∷ []) (var 0 ⊗ var 1 ⊗ var 2) (var 0 ⊗ var 2 ⊗ var 1) refl

joined : (x m y n z k : ℤ) → pos 0 <ℤ k → x *ℤ k ≡ z *ℤ m → y *ℤ k ≡ z *ℤ n → x *ℤ n ≡ y *ℤ m
joined x m y n z k h p q = same-cancel k (x *ℤ n) (y *ℤ m) h
    (turned k x n ∙ ap (λ v. v *ℤ n) p ∙ swapped z m n ∙ ap (λ v. v *ℤ m) (sym q) ∙ sym (turned k y m))

-- two spellings of one point are spellings of each other
pub same-join : (s t a : Spot) → pos 0 <ℤ a.m → Same s a → Same t a → Same s t
same-join s t a h p q = record { x = joined s.x s.m t.x t.m a.x a.m h p.x q.x; y = joined s.y s.m t.y t.m a.y a.m h p.y q.y }

signed : (a : ℤ) → (a ≡ pos 0) ⊎ ((s : ℤ) × (pos 0 <ℤ (s *ℤ a)))
signed a = elim (sign a) [
  | below h ↦ inr (negsuc 0, omega (arith, lin, ring (a ∷ []) (con (negsuc 0) ⊗ var 0) (con (pos 0) ⊖ var 0) refl))
  | none h ↦ inl h
  | above h ↦ inr (pos 1, omega (arith, lin, ring (a ∷ []) (con (pos 1) ⊗ var 0) (var 0) refl))
]

chosen_once : (e f : Edge) (s t : Spot) → IsMeeting e f s → IsMeeting e f t → IsChosen e f s → IsChosen e f t → s ≡ t
chosen_once e f s t hs ht (inl p) (inl q) = p ∙ sym q
chosen_once e f s t hs ht (inl p) (inr q) = absurd (q.0 (subst (λ (u : Spot). IsMeeting e f u) p hs))
chosen_once e f s t hs ht (inr p) (inl q) = absurd (p.0 (subst (λ (u : Spot). IsMeeting e f u) q ht))
chosen_once e f s t hs ht (inr p) (inr q) = p.1 ∙ sym q.1

pub meet_once : (e f : Edge) (s t : Spot) → IsMeetSpot e f s → IsMeetSpot e f t → s ≡ t
meet_once e f s t hs ht = elim (signed (turn e f)) [
  | inl z ↦ chosen_once e f s t hs.meeting ht.meeting (hs.chosen z) (ht.chosen z)
  | inr k ↦
      let a : Spot = along e (k.0 *ℤ offset e f f) (k.0 *ℤ turn e f) in
      let p = common_is e f s k.0 hs.meeting.on_e.collinear hs.meeting.on_f.collinear in
      let q = common_is e f t k.0 ht.meeting.on_e.collinear ht.meeting.on_f.collinear in
      spots_equal s t (lowest_unique s t hs.meeting.real ht.meeting.real (same-join s t a k.1 p q) hs.lowest ht.lowest)
]
