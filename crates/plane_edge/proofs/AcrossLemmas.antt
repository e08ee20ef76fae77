-- Two edges on different lines meet exactly where the parts of both are in range.
use Rattle.std.proofs.Common.{◌≡◌, ◌⊎◌, inl, inr, refl, ◌∙◌, ap, subst, arith, Bool, true, false, [], ◌∷◌, ℤ, pos, ◌+ℤ◌, ◌-ℤ◌, ◌*ℤ◌, ◌≤ℤ◌, ◌<ℤ◌}
use Rattle.std.proofs.lemmas.Int.{ints}
use Rattle.plane_edge.specs.declared.edge.Edge.{Edge}
use Rattle.plane_edge.specs.declared.spot.Spot.{Spot}
use Rattle.plane_edge.specs.Plane.{IsEnd, Same, IsMeeting, run, rise, turn, offset, along, are_meeting_parts}
use Rattle.plane_edge.specs.Plane.IsEnd.{at_low, at_high}
use Rattle.whole_ring.proofs.Laws.{*ℤ_comm, zero-*ℤ}
use Rattle.whole_ring.proofs.Ring.{ring, var, ◌⊕◌, ◌⊖◌, ◌⊗◌}
use Rattle.whole_ring.proofs.Signs.{lin, zero-cancel}
use Rattle.plane_edge.proofs.SameLemmas.{On-same, IsEnd-same, same-swap}
use Rattle.plane_edge.proofs.MeetLemmas.{rises, On-along, part-in-range, common_is, left_over}

pub IsMeeting-same : (e f : Edge) (s t : Spot) → pos 0 <ℤ t.m → Same s t → IsMeeting e f s → IsMeeting e f t
IsMeeting-same e f s t ht h m = record {
  real = ht;
  on_e = On-same e s t m.real ht h m.on_e;
  on_f = On-same f s t m.real ht h m.on_f;
  no_shared_end = λ b. m.no_shared_end (IsEnd-same e t s ht (same-swap h) b.0, IsEnd-same f t s ht (same-swap h) b.1);
}

-- ---- the ends are at the parts 0 and m
no_part : (low d n m : ℤ) → n ≡ pos 0 → low *ℤ m +ℤ n *ℤ d ≡ low *ℤ m
no_part low d n m h = let z : n *ℤ d ≡ pos 0 = ap (λ v. v *ℤ d) h ∙ zero-*ℤ d in omega (arith, lin)

whole_part : (low high n m : ℤ) → n ≡ m → low *ℤ m +ℤ n *ℤ (high -ℤ low) ≡ high *ℤ m
whole_part low high n m h = ap (λ v. low *ℤ m +ℤ v *ℤ (high -ℤ low)) h ∙ ring (low ∷ high ∷ m ∷ []) (var 0 ⊗ var 2 ⊕ var 2 ⊗ (var 1 ⊖ var 0)) (var 1 ⊗ var 2) refl

pub end_of_part : (e : Edge) (n m : ℤ) → (n ≡ pos 0) ⊎ (n ≡ m) → IsEnd e (along e n m)
end_of_part e n m (inl h) = at_low (record { x = no_part e.low.x (run e) n m h; y = no_part e.low.y (rise e) n m h })
end_of_part e n m (inr h) = at_high (record { x = whole_part e.low.x e.high.x n m h; y = whole_part e.low.y e.high.y n m h })

is_none : (low d n m : ℤ) → pos 0 <ℤ d → low *ℤ m +ℤ n *ℤ d ≡ low *ℤ m → n ≡ pos 0
is_none low d n m h e = zero-cancel d n h (omega (arith, lin, *ℤ_comm d n))

is_whole : (low high n m : ℤ) → pos 0 <ℤ (high -ℤ low) → low *ℤ m +ℤ n *ℤ (high -ℤ low) ≡ high *ℤ m → n ≡ m
is_whole low high n m h e = let z = zero-cancel (high -ℤ low) (m -ℤ n) h (omega (arith, lin, *ℤ_comm (high -ℤ low) (m -ℤ n), left_over low high n m)) in omega (arith, lin)

pub part_of_end : (e : Edge) (n m : ℤ) → IsEnd e (along e n m) → (n ≡ pos 0) ⊎ (n ≡ m)
part_of_end e n m (at_low a) = inl (elim (rises e) [ inl h ↦ is_none e.low.y (rise e) n m h a.y | inr h ↦ is_none e.low.x (run e) n m h.1 a.x ])
part_of_end e n m (at_high a) = inr (elim (rises e) [ inl h ↦ is_whole e.low.y e.high.y n m h a.y | inr h ↦ is_whole e.low.x e.high.x n m h.1 a.x ])

-- ---- the part of e and the part of f are one point
meet_x : (x0 y0 x1 y1 u0 v0 u1 v1 s : ℤ) →
    x0 *ℤ (s *ℤ ((x1 -ℤ x0) *ℤ (v1 -ℤ v0) -ℤ (y1 -ℤ y0) *ℤ (u1 -ℤ u0))) +ℤ (s *ℤ ((u0 -ℤ x0) *ℤ (v1 -ℤ v0) -ℤ (v0 -ℤ y0) *ℤ (u1 -ℤ u0))) *ℤ (x1 -ℤ x0)
    ≡ u0 *ℤ (s *ℤ ((x1 -ℤ x0) *ℤ (v1 -ℤ v0) -ℤ (y1 -ℤ y0) *ℤ (u1 -ℤ u0))) +ℤ (s *ℤ ((u0 -ℤ x0) *ℤ (y1 -ℤ y0) -ℤ (v0 -ℤ y0) *ℤ (x1 -ℤ x0))) *ℤ (u1 -ℤ u0)
meet_x x0 y0 x1 y1 u0 v0 u1 v1 s =
    let X0 = var 0 in let Y0 = var 1 in let X1 = var 2 in let Y1 = var 3 in let U0 = var 4 in let V0 = var 5 in let U1 = var 6 in let V1 = var 7 in let S = var 8 in
    let T = S ⊗ ((X1 ⊖ X0) ⊗ (V1 ⊖ V0) ⊖ (Y1 ⊖ Y0) ⊗ (U1 ⊖ U0)) in
    ring (x0 ∷ y0 ∷ x1 ∷ y1 ∷ u0 ∷ v0 ∷ u1 ∷ v1 ∷ s ∷ [])
    (X0 ⊗ T ⊕ (S ⊗ ((U0 ⊖ X0) ⊗ (V1 ⊖ V0) ⊖ (V0 ⊖ Y0) ⊗ (U1 ⊖ U0))) ⊗ (X1 ⊖ X0))
    (U0 ⊗ T ⊕ (S ⊗ ((U0 ⊖ X0) ⊗ (Y1 ⊖ Y0) ⊖ (V0 ⊖ Y0) ⊗ (X1 ⊖ X0))) ⊗ (U1 ⊖ U0)) refl

meet_y : (x0 y0 x1 y1 u0 v0 u1 v1 s : ℤ) →
    y0 *ℤ (s *ℤ ((x1 -ℤ x0) *ℤ (v1 -ℤ v0) -ℤ (y1 -ℤ y0) *ℤ (u1 -ℤ u0))) +ℤ (s *ℤ ((u0 -ℤ x0) *ℤ (v1 -ℤ v0) -ℤ (v0 -ℤ y0) *ℤ (u1 -ℤ u0))) *ℤ (y1 -ℤ y0)
    ≡ v0 *ℤ (s *ℤ ((x1 -ℤ x0) *ℤ (v1 -ℤ v0) -ℤ (y1 -ℤ y0) *ℤ (u1 -ℤ u0))) +ℤ (s *ℤ ((u0 -ℤ x0) *ℤ (y1 -ℤ y0) -ℤ (v0 -ℤ y0) *ℤ (x1 -ℤ x0))) *ℤ (v1 -ℤ v0)
meet_y x0 y0 x1 y1 u0 v0 u1 v1 s =
    let X0 = var 0 in let Y0 = var 1 in let X1 = var 2 in let Y1 = var 3 in let U0 = var 4 in let V0 = var 5 in let U1 = var 6 in let V1 = var 7 in let S = var 8 in
    let T = S ⊗ ((X1 ⊖ X0) ⊗ (V1 ⊖ V0) ⊖ (Y1 ⊖ Y0) ⊗ (U1 ⊖ U0)) in
    ring (x0 ∷ y0 ∷ x1 ∷ y1 ∷ u0 ∷ v0 ∷ u1 ∷ v1 ∷ s ∷ [])
    (Y0 ⊗ T ⊕ (S ⊗ ((U0 ⊖ X0) ⊗ (V1 ⊖ V0) ⊖ (V0 ⊖ Y0) ⊗ (U1 ⊖ U0))) ⊗ (Y1 ⊖ Y0))
    (V0 ⊗ T ⊕ (S ⊗ ((U0 ⊖ X0) ⊗ (Y1 ⊖ Y0) ⊖ (V0 ⊖ Y0) ⊗ (X1 ⊖ X0))) ⊗ (V1 ⊖ V0)) refl

same_point : (e f : Edge) (s : ℤ) → Same (along e (s *ℤ offset e f f) (s *ℤ turn e f)) (along f (s *ℤ offset e f e) (s *ℤ turn e f))
same_point e f s = record {
  x = ap (λ z. z *ℤ (s *ℤ turn e f)) (meet_x e.low.x e.low.y e.high.x e.high.y f.low.x f.low.y f.high.x f.high.y s);
  y = ap (λ z. z *ℤ (s *ℤ turn e f)) (meet_y e.low.x e.low.y e.high.x e.high.y f.low.x f.low.y f.high.x f.high.y s);
}

-- ---- the test
parts_true : (n k m : ℤ) → are_meeting_parts n k m ≡ true → (pos 0 ≤ℤ n) × (n ≤ℤ m) × (pos 0 ≤ℤ k) × (k ≤ℤ m)
parts_true n k m h = grind (arith, ints)

parts_apart : (n k m : ℤ) → are_meeting_parts n k m ≡ true → (n ≡ pos 0) ⊎ (n ≡ m) → (k ≡ pos 0) ⊎ (k ≡ m) → ⊥
parts_apart n k m h a b = grind (arith, ints)

parts_false_n : (n k m : ℤ) → are_meeting_parts n k m ≡ false → pos 0 ≤ℤ n → n ≤ℤ m → pos 0 ≤ℤ k → k ≤ℤ m → (n ≡ pos 0) ⊎ (n ≡ m)
parts_false_n n k m h a b c d = grind (arith, ints)

parts_false_k : (n k m : ℤ) → are_meeting_parts n k m ≡ false → pos 0 ≤ℤ n → n ≤ℤ m → pos 0 ≤ℤ k → k ≤ℤ m → (k ≡ pos 0) ⊎ (k ≡ m)
parts_false_k n k m h a b c d = grind (arith, ints)

pub across_found : (e f : Edge) (s : ℤ) → pos 0 <ℤ (s *ℤ turn e f) → are_meeting_parts (s *ℤ offset e f f) (s *ℤ offset e f e) (s *ℤ turn e f) ≡ true → IsMeeting e f (along e (s *ℤ offset e f f) (s *ℤ turn e f))
across_found e f s hm t =
    let n = s *ℤ offset e f f in let k = s *ℤ offset e f e in let m = s *ℤ turn e f in
    let r = parts_true n k m t in
    let same = same_point e f s in
    record {
      real = hm;
      on_e = On-along e n m r.0 r.1;
      on_f = On-same f (along f k m) (along e n m) hm hm (same-swap same) (On-along f k m r.2 r.3);
      no_shared_end = λ b. parts_apart n k m t (part_of_end e n m b.0) (part_of_end f k m (IsEnd-same f (along e n m) (along f k m) hm same b.1));
    }

pub across_none : (e f : Edge) (s : ℤ) → pos 0 <ℤ (s *ℤ turn e f) → are_meeting_parts (s *ℤ offset e f f) (s *ℤ offset e f e) (s *ℤ turn e f) ≡ false → (q : Spot) → ¬ IsMeeting e f q
across_none e f s hm t q meeting =
    let n = s *ℤ offset e f f in let k = s *ℤ offset e f e in let m = s *ℤ turn e f in
    let at_e = common_is e f q s meeting.on_e.collinear meeting.on_f.collinear in
    let p = IsMeeting-same e f q (along e n m) hm at_e meeting in
    let same = same_point e f s in
    let rn = part-in-range e n m hm p.on_e in
    let rk = part-in-range f k m hm (On-same f (along e n m) (along f k m) hm hm same p.on_f) in
    p.no_shared_end (
      end_of_part e n m (parts_false_n n k m t rn.0 rn.1 rk.0 rk.1),
      IsEnd-same f (along f k m) (along e n m) hm (same-swap same) (end_of_part f k m (parts_false_k n k m t rn.0 rn.1 rk.0 rk.1)),
    )

-- ---- the same, by the steps of the code
pub record Steps (e f : Edge) (det sign m a n b k : ℤ) : Type 0 where
  pub det_is : det ≡ turn e f
  pub positive : pos 0 <ℤ (sign *ℤ det)
  pub m_is : m ≡ sign *ℤ det
  pub a_is : a ≡ offset e f f
  pub n_is : n ≡ sign *ℤ a
  pub b_is : b ≡ offset e f e
  pub k_is : k ≡ sign *ℤ b

pub m-steps : (e f : Edge) (det sign m a n b k : ℤ) → Steps e f det sign m a n b k → m ≡ sign *ℤ turn e f
m-steps e f det sign m a n b k s = s.m_is ∙ ap (λ z. sign *ℤ z) s.det_is

n-steps : (e f : Edge) (det sign m a n b k : ℤ) → Steps e f det sign m a n b k → n ≡ sign *ℤ offset e f f
n-steps e f det sign m a n b k s = s.n_is ∙ ap (λ z. sign *ℤ z) s.a_is

k-steps : (e f : Edge) (det sign m a n b k : ℤ) → Steps e f det sign m a n b k → k ≡ sign *ℤ offset e f e
k-steps e f det sign m a n b k s = s.k_is ∙ ap (λ z. sign *ℤ z) s.b_is

pub real-steps : (e f : Edge) (det sign m a n b k : ℤ) → Steps e f det sign m a n b k → pos 0 <ℤ (sign *ℤ turn e f)
real-steps e f det sign m a n b k s = subst (λ z. pos 0 <ℤ (sign *ℤ z)) s.det_is s.positive

test-steps : (e f : Edge) (det sign m a n b k : ℤ) (t : Bool) → Steps e f det sign m a n b k → are_meeting_parts n k m ≡ t → are_meeting_parts (sign *ℤ offset e f f) (sign *ℤ offset e f e) (sign *ℤ turn e f) ≡ t
test-steps e f det sign m a n b k t s h = rw (← n-steps e f det sign m a n b k s, ← k-steps e f det sign m a n b k s, ← m-steps e f det sign m a n b k s) h

pub found_by : (e f : Edge) (det sign m a n b k : ℤ) (r : Spot) → Steps e f det sign m a n b k → are_meeting_parts n k m ≡ true → Same (along e n m) r → pos 0 <ℤ r.m → IsMeeting e f r
found_by e f det sign m a n b k r s h same real =
    let same' : Same (along e (sign *ℤ offset e f f) (sign *ℤ turn e f)) r = rw (← n-steps e f det sign m a n b k s, ← m-steps e f det sign m a n b k s) same in
    IsMeeting-same e f (along e (sign *ℤ offset e f f) (sign *ℤ turn e f)) r real same' (across_found e f sign (real-steps e f det sign m a n b k s) (test-steps e f det sign m a n b k true s h))

pub none_by : (e f : Edge) (det sign m a n b k : ℤ) → Steps e f det sign m a n b k → are_meeting_parts n k m ≡ false → (q : Spot) → ¬ IsMeeting e f q
none_by e f det sign m a n b k s h = across_none e f sign (real-steps e f det sign m a n b k s) (test-steps e f det sign m a n b k false s h)
