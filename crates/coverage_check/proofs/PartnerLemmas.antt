-- Which edges never meet, and which pair is the first that does.
use Rattle.std.proofs.Common.{◌≡◌, ◌≢◌, ◌⊎◌, inl, inr, ℕ, ◌+◌, ◌<◌, ◌≤◌, refl, sym, ◌∙◌, ap, subst, arith, Bool, true, false, true≢false, ◌&&◌, ◌||◌, List, length, slice_index_or, Contains, ℤ, pos, ◌*ℤ◌, ◌≤ℤ◌, ◌<ℤ◌, int_lt, int_le}
use Rattle.std.specs.Int.{int_min, int_max}
use Rattle.std.specs.Ordering.{int_eq}
use Rattle.std.proofs.lemmas.Int.{ints, clamps}
use Rattle.std.proofs.lemmas.List.{get_or_default}
use Rattle.plane_edge.specs.declared.edge.Edge.{Edge}
use Rattle.plane_edge.specs.declared.spot.Spot.{Spot}
use Rattle.plane_edge.specs.Edges.{is_same_point, is_edge_below, IsRisingEdges}
use Rattle.plane_edge.specs.Line.{IsMeetSpot}
use Rattle.plane_edge.specs.Order.{is_below}
use Rattle.plane_edge.specs.Plane.{IsMeeting}
use Rattle.plane_edge.proofs.OddLemmas.{rising_at}
use Rattle.plane_edge.proofs.OrderLemmas.{edge_below-differ, edge_below-one_way}
use Rattle.plane_edge.proofs.SameLemmas.{min-split, max-split}
use Rattle.plane_strip.specs.Strip.{IsPlanar}
use Rattle.whole_ring.proofs.Laws.{*ℤ_comm}
use Rattle.whole_ring.proofs.Signs.{lin, lt-mul}
use Rattle.coverage_check.specs.Crossing.{IsFirstCrossing}
use Rattle.coverage_check.specs.Partners.{left_of, right_of, is_across, NeverMeet, MeetsNone, IsFirstPartner}

-- ---- edges that never meet
no_common : (a b m v : ℤ) → pos 0 <ℤ m → a <ℤ b → v ≤ℤ (a *ℤ m) → (b *ℤ m) ≤ℤ v → ⊥
no_common a b m v h k p q = let w = lt-mul m a b h k in omega (arith, lin, *ℤ_comm m a, *ℤ_comm m b)

pub never_above : (e f : Edge) → e.high.y <ℤ f.low.y → NeverMeet e f
never_above e f h = λ s m. no_common e.high.y f.low.y s.m s.y m.real h m.on_e.to_high m.on_f.from_low

apart : (a b c d : ℤ) → (int_le a b && int_le c d) ≡ false → (b <ℤ a) ⊎ (d <ℤ c)
apart a b c d h = grind (arith, ints)

-- e is left of f
never_right : (e f : Edge) → right_of e <ℤ left_of f → (s : Spot) → pos 0 <ℤ s.m → s.x ≤ℤ int_max (e.low.x *ℤ s.m) (e.high.x *ℤ s.m) → int_min (f.low.x *ℤ s.m) (f.high.x *ℤ s.m) ≤ℤ s.x → ⊥
never_right e f h s r p q = elim (max-split (e.low.x *ℤ s.m) (e.high.x *ℤ s.m) s.x p) [
  | inl a ↦ elim (min-split (f.low.x *ℤ s.m) (f.high.x *ℤ s.m) s.x q) [
    | inl b ↦ no_common e.low.x f.low.x s.m s.x r (omega (arith, lin, clamps)) a b
    | inr b ↦ no_common e.low.x f.high.x s.m s.x r (omega (arith, lin, clamps)) a b
  ]
  | inr a ↦ elim (min-split (f.low.x *ℤ s.m) (f.high.x *ℤ s.m) s.x q) [
    | inl b ↦ no_common e.high.x f.low.x s.m s.x r (omega (arith, lin, clamps)) a b
    | inr b ↦ no_common e.high.x f.high.x s.m s.x r (omega (arith, lin, clamps)) a b
  ]
]

pub never_beside : (e f : Edge) → is_across f (left_of e) (right_of e) ≡ false → NeverMeet e f
never_beside e f h = λ s m. (elim (apart (left_of f) (right_of e) (left_of e) (right_of f) h) [
  | inl k ↦ never_right e f k s m.real m.on_e.to_right m.on_f.from_left
  | inr k ↦ never_right f e k s m.real m.on_f.to_right m.on_e.from_left
])

-- ---- heights of a rising list
low_parts : (a b c : Bool) → (a || (b && c)) ≡ true → (a ≡ true) ⊎ (b ≡ true)
low_parts true b c h = inl refl
low_parts false true c h = inr refl
low_parts false false c h = absurd (true≢false (sym h))

low_below : (a b c d : ℤ) → (int_lt b d || (int_le b d && int_lt a c)) ≡ true → b ≤ℤ d
low_below a b c d h = grind (arith, ints)

low_same : (a b c d : ℤ) → (int_eq a c && int_eq b d) ≡ true → b ≤ℤ d
low_same a b c d h = grind (arith, ints)

pub lower_start : (e f : Edge) → is_edge_below e f ≡ true → e.low.y ≤ℤ f.low.y
lower_start e f h = elim (low_parts (is_below e.low f.low) (is_same_point e.low f.low) (is_below e.high f.high) h) [
  | inl k ↦ low_below e.low.x e.low.y f.low.x f.low.y k
  | inr k ↦ low_same e.low.x e.low.y f.low.x f.low.y k
]

before : (i j : ℕ) → (i < j) ⊎ ((i ≡ j) ⊎ (j < i))
before i j = grind arith

-- behind an edge that begins above the end of the one at i all do
pub none_higher : (es : List Edge) (i n : ℕ) (e f : Edge) → IsRisingEdges es → n < length es → MeetsNone es i n →
    ((d : Edge) → e ≡ slice_index_or es i d) → ((d : Edge) → f ≡ slice_index_or es n d) → e.high.y <ℤ f.low.y → MeetsNone es i (length es)
none_higher es i n e f r w none p q h = λ j d a b. (elim (before j n) [
  | inl k ↦ none j d a k
  | inr o ↦ elim o [
    | inl k ↦ at j d (ap (λ m. slice_index_or es m d) k ∙ sym (q d))
    | inr k ↦ never j d (lower_start (slice_index_or es n d) (slice_index_or es j d) (rising_at es r n j d k b))
  ]
])
  where
    at : (j : ℕ) (d : Edge) → slice_index_or es j d ≡ f → NeverMeet (slice_index_or es i d) (slice_index_or es j d)
    at j d k = subst (λ (g : Edge). NeverMeet (slice_index_or es i d) g) (sym k) (subst (λ (g : Edge). NeverMeet g f) (p d) (never_above e f h))

    never : (j : ℕ) (d : Edge) → (slice_index_or es n d).low.y ≤ℤ (slice_index_or es j d).low.y → NeverMeet (slice_index_or es i d) (slice_index_or es j d)
    never j d k =
        let up : f.low.y ≤ℤ (slice_index_or es j d).low.y = subst (λ (g : Edge). g.low.y ≤ℤ (slice_index_or es j d).low.y) (sym (q d)) k in
        subst (λ (g : Edge). NeverMeet g (slice_index_or es j d)) (p d) (never_above e (slice_index_or es j d) (omega (arith, lin)))

pub none_more : (es : List Edge) (i n : ℕ) (e f : Edge) → MeetsNone es i n → ((d : Edge) → e ≡ slice_index_or es i d) → ((d : Edge) → f ≡ slice_index_or es n d) → NeverMeet e f → MeetsNone es i (n + 1)
none_more es i n e f none p q h = λ j d a b. (elim (before j n) [
  | inl k ↦ none j d a k
  | inr o ↦ elim o [
    | inl k ↦ subst (λ (m : ℕ). NeverMeet (slice_index_or es i d) (slice_index_or es m d)) (sym k) (subst (λ (g : Edge). NeverMeet (slice_index_or es i d) g) (q d) (subst (λ (g : Edge). NeverMeet g f) (p d) h))
    | inr k ↦ absurd (omega arith)
  ]
])

-- ---- the first pair
meeting-swap : (e f : Edge) (s : Spot) → IsMeeting e f s → IsMeeting f e s
meeting-swap e f s m = record { real = m.real; on_e = m.on_f; on_f = m.on_e; no_shared_end = λ b. m.no_shared_end (b.1, b.0) }

-- the edge is the one at the place, which two different edges cannot share
pub record IsAtPlace (es : List Edge) (i : ℕ) (e : Edge) : Type 0 where
  pub within : i < length es
  pub is : (d : Edge) → slice_index_or es i d ≡ e

placed : (es : List Edge) (e : Edge) (c : Contains es e) → IsAtPlace es c.0 e
placed es e c = record { within = c.1; is = λ d. get_or_default es c.0 d e c.1 ∙ c.2 }

pub contains_place : (es : List Edge) (e : Edge) (i : ℕ) → IsAtPlace es i e → Contains es e
contains_place es e i a = (i, a.within, a.is e)

never_at : (es : List Edge) (i j : ℕ) (e f : Edge) → IsAtPlace es i e → IsAtPlace es j f → NeverMeet (slice_index_or es i e) (slice_index_or es j e) → NeverMeet e f
never_at es i j e f a b n = subst (λ (g : Edge). NeverMeet g f) (a.is e) (subst (λ (g : Edge). NeverMeet (slice_index_or es i e) g) (b.is e) n)

-- no two edges of which one stands before n meet
none_of_two : (es : List Edge) (n i j : ℕ) (e f : Edge) → ((k : ℕ) → k < n → MeetsNone es k (length es)) → IsAtPlace es i e → IsAtPlace es j f → e ≢ f → (i < n) ⊎ (j < n) → NeverMeet e f
none_of_two es n i j e f none a b differ w = λ s m. (elim (before i j) [
  | inl k ↦ never_at es i j e f a b (none i (omega arith) j e k b.within) s m
  | inr o ↦ elim o [
    | inl k ↦ differ (sym (a.is e) ∙ ap (λ l. slice_index_or es l e) k ∙ b.is e)
    | inr k ↦ never_at es j i f e b a (none j (omega arith) i f k a.within) s (meeting-swap e f s m)
  ]
])

-- an edge that is below the one at n stands before it
stands_before : (es : List Edge) → IsRisingEdges es → (i n : ℕ) (e f : Edge) → IsAtPlace es i e → IsAtPlace es n f → is_edge_below e f ≡ true → i < n
stands_before es r i n e f a b h = elim (before i n) [
  | inl k ↦ k
  | inr o ↦ elim o [
    | inl k ↦
        let q : e ≡ f = sym (a.is e) ∙ ap (λ l. slice_index_or es l e) k ∙ b.is e in
        absurd (edge_below-differ e f h q)
    | inr k ↦
        let up : is_edge_below f e ≡ true = subst (λ (g : Edge). is_edge_below g e ≡ true) (b.is e) (subst (λ (g : Edge). is_edge_below (slice_index_or es n e) g ≡ true) (a.is e) (rising_at es r n i e k a.within)) in
        absurd (true≢false (sym up ∙ edge_below-one_way e f h))
  ]
]

pub first_pair : (es : List Edge) (i j : ℕ) (e f : Edge) (s : Spot) → IsRisingEdges es → IsAtPlace es i e → IsAtPlace es j f → IsFirstPartner es i j s →
    ((k : ℕ) → k < i → MeetsNone es k (length es)) → IsFirstCrossing (Contains es) e f s
first_pair es i j e f s r a b p none =
    let up : is_edge_below e f ≡ true = subst (λ (g : Edge). is_edge_below g f ≡ true) (a.is e) (subst (λ (g : Edge). is_edge_below (slice_index_or es i e) g ≡ true) (b.is e) (rising_at es r i j e p.after p.within)) in
    let spot : IsMeetSpot e f s = subst (λ (g : Edge). IsMeetSpot g f s) (a.is e) (subst (λ (g : Edge). IsMeetSpot (slice_index_or es i e) g s) (b.is e) (p.spot e)) in
    record {
      crossing = record { odd_e = contains_place es e i a; odd_f = contains_place es f j b; different = edge_below-differ e f up; meets = spot.meeting };
      rising = up;
      spot = spot;
      least = λ g h t c low. (let k = stands_before es r c.odd_e.0 i g e (placed es g c.odd_e) a low in
          none_of_two es i c.odd_e.0 c.odd_f.0 g h none (placed es g c.odd_e) (placed es h c.odd_f) c.different (inl k) t c.meets);
      then_least = λ h t c low. (let k = stands_before es r c.odd_f.0 j h f (placed es h c.odd_f) b low in
          elim (before c.odd_f.0 i) [
            | inl l ↦ none_of_two es i i c.odd_f.0 e h none a (placed es h c.odd_f) c.different (inr l) t c.meets
            | inr o ↦ elim o [
              | inl l ↦ c.different (sym (a.is e) ∙ ap (λ m. slice_index_or es m e) (sym l) ∙ (placed es h c.odd_f).is e)
              | inr l ↦ never_at es i c.odd_f.0 e h a (placed es h c.odd_f) (p.none_before c.odd_f.0 e l k) t c.meets
            ]
          ]);
    }

pub planar_from_none : (es : List Edge) (n : ℕ) → length es ≤ n → ((k : ℕ) → k < n → MeetsNone es k (length es)) → IsPlanar es
planar_from_none es n w none = λ e f c k differ. none_of_two es n c.0 k.0 e f none (placed es e c) (placed es f k) differ (inl (omega (arith, c.1)))

-- ---- as the loops read the list
pub read_at : (es : List Edge) (i : ℕ) (e : Edge) → i < length es → e ≡ slice_index_or es i e → (d : Edge) → e ≡ slice_index_or es i d
read_at es i e w q d = q ∙ get_or_default es i e d w

pub place_at : (es : List Edge) (i : ℕ) (e : Edge) → i < length es → e ≡ slice_index_or es i e → IsAtPlace es i e
place_at es i e w q = record { within = w; is = λ d. sym (read_at es i e w q d) }

pub differ_at : (es : List Edge) (i j : ℕ) (e f : Edge) → IsRisingEdges es → i < j → j < length es → ((d : Edge) → e ≡ slice_index_or es i d) → ((d : Edge) → f ≡ slice_index_or es j d) → e ≢ f
differ_at es i j e f r h w p q = λ k. edge_below-differ (slice_index_or es i e) (slice_index_or es j e) (rising_at es r i j e h w) (sym (p e) ∙ k ∙ q e)

pub partner_at : (es : List Edge) (i j : ℕ) (e f : Edge) (s : Spot) → i < j → j < length es → ((d : Edge) → e ≡ slice_index_or es i d) → ((d : Edge) → f ≡ slice_index_or es j d) → IsMeetSpot e f s → MeetsNone es i j → IsFirstPartner es i j s
partner_at es i j e f s h w p q m none = record {
  after = h;
  within = w;
  spot = λ d. subst (λ (g : Edge). IsMeetSpot (slice_index_or es i d) g s) (q d) (subst (λ (g : Edge). IsMeetSpot g f s) (p d) m);
  none_before = none;
}

pub is_above : (a b : ℤ) → int_lt a b ≡ true → a <ℤ b
is_above a b h = grind (arith, ints)
