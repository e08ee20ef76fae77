-- What the rays from a point and from the middle of an edge at the point cross, edge by edge.
use Rattle.std.proofs.Common.{◌≡◌, ◌≢◌, ◌⊎◌, inl, inr, ℕ, ◌+◌, ◌%◌, refl, sym, ◌∙◌, ap, subst, arith, Bool, true, false, true≢false, ◌&&◌, int_lt, int_le, [], ◌∷◌, ℤ, pos, ◌+ℤ◌, ◌-ℤ◌, ◌*ℤ◌, ◌≤ℤ◌, ◌<ℤ◌}
use Rattle.std.specs.Ordering.{int_eq}
use Rattle.std.proofs.lemmas.Int.{ints}
use Rattle.plane_edge.specs.declared.edge.Edge.{Edge}
use Rattle.plane_edge.specs.declared.point.Point.{Point}
use Rattle.plane_edge.specs.Edges.{is_same_point}
use Rattle.plane_edge.specs.Line.{whole}
use Rattle.plane_edge.specs.Middle.{middle_of}
use Rattle.plane_edge.specs.Plane.{side_of, is_crossed, is_passed_by, run, rise, turn}
use Rattle.plane_edge.proofs.EvenLists.{bit}
use Rattle.plane_edge.proofs.MeetLemmas.{rises, rise_nonneg}
use Rattle.plane_edge.proofs.OrderLemmas.{same_points_equal, same_point_itself}
use Rattle.plane_strip.proofs.MidLemmas.{lt_true, lt_false}
use Rattle.whole_ring.proofs.Laws.{*ℤ_comm, *ℤ-zero, zero-*ℤ}
use Rattle.whole_ring.proofs.Ring.{ring, var, con, ◌⊕◌, ◌⊖◌, ◌⊗◌}
use Rattle.whole_ring.proofs.Signs.{lin, sign, none, above, below, either_way, pos-mul, neg-mul}
use Rattle.edge_sides.specs.Sides.{is_level}
use Rattle.edge_sides.proofs.Parts.{mix, is_seen, is_had, quiet, all_below}
use Rattle.edge_sides.proofs.Meetings.{toward, AreApart, side-turn, middle-mix, low-mix, high-mix, side-low, point_eq, or_false, nowhere}

abbrev pub six : Bool → Bool → Bool → Bool → Bool → Bool → ℕ
six a b c d e f = ((bit a + bit b) + (bit c + bit d)) + (bit e + bit f)

-- ---- the edges at a point
-- the edge is level and begins at the point
abbrev pub is_floor : Point → Edge → Bool
is_floor p f = is_same_point f.low p && is_level f

-- both edges have their low end at the point, and f is to the right
abbrev pub is_up : Point → Edge → Edge → Bool
is_up p f e = (is_same_point f.low p && is_same_point e.low p) && int_lt (turn e f) (pos 0)

-- both edges have their high end at the point, and f is to the right
abbrev pub is_down : Point → Edge → Edge → Bool
is_down p f e = (is_same_point f.high p && is_same_point e.high p) && int_lt (turn f e) (pos 0)

-- the point is to the right of e, above the height h/2 and not above k/2
abbrev pub is_beside : Edge → ℤ → ℤ → Point → Bool
is_beside e h k q = is_had h k (q.y *ℤ pos 2) (toward e q)

-- ---- tests
pub and_first : (a b c : Bool) → a ≡ b → (a && c) ≡ (b && c)
and_first a b c h = ap (λ z. z && c) h

pub gone : (a c d : Bool) → a ≡ false → ((a && c) && d) ≡ false
gone a c d h = ap (λ z. (z && c) && d) h

pub kept : (a c d : Bool) → a ≡ true → c ≡ true → ((a && c) && d) ≡ d
kept a c d h k = ap (λ z. (z && c) && d) h ∙ ap (λ z. z && d) k

range_same : (a b y : ℤ) → (int_le (a *ℤ pos 1) y && int_lt y (b *ℤ pos 1)) ≡ (int_le (a *ℤ pos 2) (y *ℤ pos 2) && int_lt (y *ℤ pos 2) (b *ℤ pos 2))
range_same a b y = grind (arith, ints)

pub no_side : (l y h s : ℤ) → s ≤ℤ pos 0 → is_passed_by l y h s ≡ false
no_side l y h s p = grind (arith, ints)

pub not_yet : (l y h s : ℤ) → y <ℤ l → is_passed_by l y h s ≡ false
not_yet l y h s p = grind (arith, ints)

pub no_more : (l y h s : ℤ) → h ≤ℤ y → is_passed_by l y h s ≡ false
no_more l y h s p = grind (arith, ints)

pub flat : (l y h s : ℤ) → l ≡ h → is_passed_by l y h s ≡ false
flat l y h s p = grind (arith, ints)

pub passed : (l y h s : ℤ) → l ≤ℤ y → y <ℤ h → pos 0 <ℤ s → is_passed_by l y h s ≡ true
passed l y h s p q r = grind (arith, ints)

pub had_zero : (h k a c : ℤ) → c ≡ pos 0 → is_had h k a c ≡ false
had_zero h k a c p = grind (arith, ints)

pub eq_true : (a b : ℤ) → int_eq a b ≡ true → a ≡ b
eq_true a b h = grind (arith, ints)

pub is_level-same : (a b : ℤ) → a ≡ b → int_eq a b ≡ true
is_level-same a b h = grind (arith, ints)

is_level-not : (a b : ℤ) → a <ℤ b → int_eq a b ≡ false
is_level-not a b h = grind (arith, ints)

pub upto_split : (a b : ℤ) → a ≤ℤ b → (a ≡ b) ⊎ (a <ℤ b)
upto_split a b h = elim (either_way b a) [ inl p ↦ inl (omega (arith, lin)) | inr p ↦ inr p ]

-- ---- signs
minus_times : (v w r : ℤ) → v *ℤ r ≡ pos 0 -ℤ w → pos 0 <ℤ r → int_lt (pos 0) v ≡ int_lt w (pos 0)
minus_times v w r e h = elim (sign v) [
  | above p ↦ (let q = pos-mul v r p h in lt_true (pos 0) v p ∙ sym (lt_true w (pos 0) (omega (arith, lin))))
  | none p ↦ (let z : v *ℤ r ≡ pos 0 = ap (λ u. u *ℤ r) p ∙ zero-*ℤ r in lt_false (pos 0) v (omega (arith, lin)) ∙ sym (lt_false w (pos 0) (omega (arith, lin))))
  | below p ↦ (let q = neg-mul r v h p in lt_false (pos 0) v (omega (arith, lin)) ∙ sym (lt_false w (pos 0) (omega (arith, lin, *ℤ_comm r v))))
]

pub times_sign : (b t : ℤ) → pos 0 <ℤ t → int_lt (b *ℤ t) (pos 0) ≡ int_lt b (pos 0)
times_sign b t h = elim (sign b) [
  | below p ↦ (let q = neg-mul t b h p in lt_true (b *ℤ t) (pos 0) (omega (arith, lin, *ℤ_comm t b)) ∙ sym (lt_true b (pos 0) p))
  | none p ↦ ap (λ u. int_lt (u *ℤ t) (pos 0)) p ∙ ap (λ u. int_lt u (pos 0)) (zero-*ℤ t) ∙ sym (ap (λ u. int_lt u (pos 0)) p)
  | above p ↦ (let q = pos-mul b t p h in lt_false (b *ℤ t) (pos 0) (omega (arith, lin)) ∙ sym (lt_false b (pos 0) (omega (arith, lin))))
]

from_zero : (a b n m : ℤ) → a ≡ pos 0 → mix a b n m ≡ b *ℤ n
from_zero a b n m h = ap (λ u. u *ℤ (m -ℤ n) +ℤ b *ℤ n) h ∙ ring (b ∷ n ∷ m ∷ []) (con (pos 0) ⊗ (var 2 ⊖ var 1) ⊕ var 0 ⊗ var 1) (var 0 ⊗ var 1) refl

pub to_zero : (a b n m : ℤ) → b ≡ pos 0 → mix a b n m ≡ a *ℤ (m -ℤ n)
to_zero a b n m h = ap (λ u. a *ℤ (m -ℤ n) +ℤ u *ℤ n) h ∙ ring (a ∷ n ∷ m ∷ []) (var 0 ⊗ (var 2 ⊖ var 1) ⊕ con (pos 0) ⊗ var 1) (var 0 ⊗ (var 2 ⊖ var 1)) refl

-- ---- the ray's crossing by the sides of the edge
pub seen_middle : (e f : Edge) → pos 0 <ℤ rise e → is_crossed f (middle_of e) ≡ is_seen (f.low.y *ℤ pos 2) (f.high.y *ℤ pos 2) (e.low.y +ℤ e.high.y) (toward e f.low) (toward e f.high)
seen_middle e f r =
    ap (λ z. (int_le (f.low.y *ℤ pos 2) (e.low.y +ℤ e.high.y) && int_lt (e.low.y +ℤ e.high.y) (f.high.y *ℤ pos 2)) && z)
    (minus_times (side_of f (middle_of e)) (mix (toward e f.low) (toward e f.high) ((e.low.y +ℤ e.high.y) -ℤ f.low.y *ℤ pos 2) (f.high.y *ℤ pos 2 -ℤ f.low.y *ℤ pos 2)) (rise e) (middle-mix e f) r)

seen_low : (e f : Edge) → pos 0 <ℤ rise e → is_crossed f (whole e.low) ≡ is_seen (f.low.y *ℤ pos 2) (f.high.y *ℤ pos 2) (e.low.y *ℤ pos 2) (toward e f.low) (toward e f.high)
seen_low e f r =
    and_first (int_le (f.low.y *ℤ pos 1) e.low.y && int_lt e.low.y (f.high.y *ℤ pos 1)) (int_le (f.low.y *ℤ pos 2) (e.low.y *ℤ pos 2) && int_lt (e.low.y *ℤ pos 2) (f.high.y *ℤ pos 2)) (int_lt (pos 0) (toward f e.low)) (range_same f.low.y f.high.y e.low.y)
    ∙ ap (λ z. (int_le (f.low.y *ℤ pos 2) (e.low.y *ℤ pos 2) && int_lt (e.low.y *ℤ pos 2) (f.high.y *ℤ pos 2)) && z)
    (minus_times (toward f e.low) (mix (toward e f.low) (toward e f.high) (e.low.y *ℤ pos 2 -ℤ f.low.y *ℤ pos 2) (f.high.y *ℤ pos 2 -ℤ f.low.y *ℤ pos 2)) (rise e *ℤ pos 2) (low-mix e f) (pos-mul (rise e) (pos 2) r (omega (arith, lin))))

pub seen_high : (e f : Edge) → pos 0 <ℤ rise e → is_crossed f (whole e.high) ≡ is_seen (f.low.y *ℤ pos 2) (f.high.y *ℤ pos 2) (e.high.y *ℤ pos 2) (toward e f.low) (toward e f.high)
seen_high e f r =
    and_first (int_le (f.low.y *ℤ pos 1) e.high.y && int_lt e.high.y (f.high.y *ℤ pos 1)) (int_le (f.low.y *ℤ pos 2) (e.high.y *ℤ pos 2) && int_lt (e.high.y *ℤ pos 2) (f.high.y *ℤ pos 2)) (int_lt (pos 0) (toward f e.high)) (range_same f.low.y f.high.y e.high.y)
    ∙ ap (λ z. (int_le (f.low.y *ℤ pos 2) (e.high.y *ℤ pos 2) && int_lt (e.high.y *ℤ pos 2) (f.high.y *ℤ pos 2)) && z)
    (minus_times (toward f e.high) (mix (toward e f.low) (toward e f.high) (e.high.y *ℤ pos 2 -ℤ f.low.y *ℤ pos 2) (f.high.y *ℤ pos 2 -ℤ f.low.y *ℤ pos 2)) (rise e *ℤ pos 2) (high-mix e f) (pos-mul (rise e) (pos 2) r (omega (arith, lin))))

-- ---- turns with a level edge
pub upright : (e f : Edge) → pos 0 <ℤ rise e → rise f ≡ pos 0 → turn e f <ℤ pos 0
upright e f r l = elim (rises f) [
  | inl k ↦ absurd (omega (arith, lin))
  | inr k ↦ (let p = pos-mul (rise e) (run f) r k.1 in let z : run e *ℤ rise f ≡ pos 0 = ap (λ u. run e *ℤ u) l ∙ *ℤ-zero (run e) in omega (arith, lin))
]

pub both_level : (e f : Edge) → rise e ≡ pos 0 → rise f ≡ pos 0 → turn e f ≡ pos 0
both_level e f l k =
    let a : run e *ℤ rise f ≡ pos 0 = ap (λ u. run e *ℤ u) k ∙ *ℤ-zero (run e) in
    let b : rise e *ℤ run f ≡ pos 0 = ap (λ u. u *ℤ run f) l ∙ zero-*ℤ (run f) in omega (arith, lin)

pub level_rise : (e : Edge) → is_level e ≡ true → rise e ≡ pos 0
level_rise e h = let q = eq_true e.low.y e.high.y h in omega (arith, lin)

pub rising_rise : (e : Edge) → is_level e ≡ false → pos 0 <ℤ rise e
rising_rise e h = elim (rises e) [ inl k ↦ k | inr k ↦ absurd (true≢false (sym (is_level-same e.low.y e.high.y (omega (arith, lin))) ∙ h)) ]

-- ---- six tests
pub six_as : (a b c d e f a' b' c' d' e' f' : Bool) → a ≡ a' → b ≡ b' → c ≡ c' → d ≡ d' → e ≡ e' → f ≡ f' → six a' b' c' d' e' f' % 2 ≡ 0 → six a b c d e f % 2 ≡ 0
six_as a b c d e f a' b' c' d' e' f' p q r s t u h =
    ap (λ z. six z b c d e f % 2) p ∙ ap (λ z. six a' z c d e f % 2) q ∙ ap (λ z. six a' b' z d e f % 2) r ∙ ap (λ z. six a' b' c' z e f % 2) s ∙ ap (λ z. six a' b' c' d' z f % 2) t ∙ ap (λ z. six a' b' c' d' e' z % 2) u ∙ h

pub six_four : (a b c d : Bool) → ((bit a + bit b) + (bit c + bit d)) % 2 ≡ 0 → six a b c d false false % 2 ≡ 0
six_four a b c d h = omega arith

pub six_two : (a : Bool) → six a a false false false false % 2 ≡ 0
six_two true = refl
six_two false = refl

-- ---- a rising edge with its low end at the point
up_level : (h k b d y z : ℤ) → h <ℤ k → b ≤ℤ h → d <ℤ pos 0 → y ≡ z → six false false ((int_le h k && int_lt k b) && int_lt d (pos 0)) (is_had h k b d) (int_eq y z) (int_lt d (pos 0)) % 2 ≡ 0
up_level h k b d y z p q r e = grind (arith, ints)

up_short : (h k b d y z : ℤ) → h <ℤ b → b ≤ℤ k → y <ℤ z → six false false ((int_le h k && int_lt k b) && int_lt d (pos 0)) (is_had h k b d) (int_eq y z) (int_lt d (pos 0)) % 2 ≡ 0
up_short h k b d y z p q r = grind (arith, ints)

up_long : (h k b d y z : ℤ) → h <ℤ k → k <ℤ b → y <ℤ z → six false false ((int_le h k && int_lt k b) && int_lt d (pos 0)) (is_had h k b d) (int_eq y z) (int_lt d (pos 0)) % 2 ≡ 0
up_long h k b d y z p q r = grind (arith, ints)

up_shared : (h k d y z : ℤ) → y *ℤ pos 2 ≡ h → h <ℤ k → y ≤ℤ z → (y ≡ z → d <ℤ pos 0) →
    six false false ((int_le h k && int_lt k (z *ℤ pos 2)) && int_lt d (pos 0)) (is_had h k (z *ℤ pos 2) d) (int_eq y z) (int_lt d (pos 0)) % 2 ≡ 0
up_shared h k d y z a p l n = elim (upto_split y z l) [
  | inl e ↦ up_level h k (z *ℤ pos 2) d y z p (omega (arith, lin, ap (λ u. u *ℤ pos 2) e)) (n e) e
  | inr e ↦ elim (either_way (z *ℤ pos 2) k) [ inl c ↦ up_short h k (z *ℤ pos 2) d y z (omega (arith, ints)) c e | inr c ↦ up_long h k (z *ℤ pos 2) d y z p c e ]
]

pub up_edge : (e f : Edge) → pos 0 <ℤ rise e → (e ≢ f → AreApart e f) →
    six (is_crossed f (whole e.low)) (is_beside e (e.low.y *ℤ pos 2) (e.low.y +ℤ e.high.y) f.low) (is_crossed f (middle_of e)) (is_beside e (e.low.y *ℤ pos 2) (e.low.y +ℤ e.high.y) f.high) (is_floor e.low f) (is_up e.low f e) % 2 ≡ 0
up_edge e f r apart = go (is_same_point f.low e.low) refl (is_same_point f.high e.low) refl
  where
    h : ℤ
    h = e.low.y *ℤ pos 2

    k : ℤ
    k = e.low.y +ℤ e.high.y

    h<k : h <ℤ k
    h<k = omega (arith, ints)

    tall : (f.low.y *ℤ pos 2) ≤ℤ (f.high.y *ℤ pos 2)
    tall = let p = rise_nonneg f in omega (arith, ints)

    go : (b : Bool) → is_same_point f.low e.low ≡ b → (c : Bool) → is_same_point f.high e.low ≡ c →
        six (is_crossed f (whole e.low)) (is_beside e (e.low.y *ℤ pos 2) (e.low.y +ℤ e.high.y) f.low) (is_crossed f (middle_of e)) (is_beside e (e.low.y *ℤ pos 2) (e.low.y +ℤ e.high.y) f.high) (is_floor e.low f) (is_up e.low f e) % 2 ≡ 0
    go true p c p' =
        let q : f.low ≡ e.low = same_points_equal f.low e.low p in
        let start : f.low.y *ℤ pos 2 ≡ h = ap (λ (v : Point). v.y *ℤ pos 2) q in
        let at : toward e f.low ≡ pos 0 = ap (λ (v : Point). toward e v) q ∙ side-low e in
        let d = toward e f.high in
        let w : turn e f ≡ d = (let s = side-turn e f in omega (arith, lin)) in
        let t = k -ℤ f.low.y *ℤ pos 2 in
        let seen : is_crossed f (middle_of e) ≡ ((int_le h k && int_lt k (f.high.y *ℤ pos 2)) && int_lt d (pos 0)) =
        seen_middle e f r
        ∙ ap (λ v. (int_le v k && int_lt k (f.high.y *ℤ pos 2)) && int_lt (mix (toward e f.low) d (k -ℤ f.low.y *ℤ pos 2) (f.high.y *ℤ pos 2 -ℤ f.low.y *ℤ pos 2)) (pos 0)) start
        ∙ ap (λ v. (int_le h k && int_lt k (f.high.y *ℤ pos 2)) && int_lt v (pos 0)) (from_zero (toward e f.low) d t (f.high.y *ℤ pos 2 -ℤ f.low.y *ℤ pos 2) at)
        ∙ ap (λ v. (int_le h k && int_lt k (f.high.y *ℤ pos 2)) && v) (times_sign d t (omega (arith, lin, h<k))) in
        six_as _ _ _ _ _ _ false false ((int_le h k && int_lt k (f.high.y *ℤ pos 2)) && int_lt d (pos 0)) (is_had h k (f.high.y *ℤ pos 2) d) (int_eq f.low.y f.high.y) (int_lt d (pos 0))
        (no_side (f.low.y *ℤ pos 1) e.low.y (f.high.y *ℤ pos 1) (toward f e.low) (let z = ap (λ (v : Point). toward f v) (sym q) ∙ side-low f in omega (arith, lin)))
        (had_zero h k (f.low.y *ℤ pos 2) (toward e f.low) at)
        seen refl
        (and_first (is_same_point f.low e.low) true (is_level f) p)
        (kept (is_same_point f.low e.low) (is_same_point e.low e.low) (int_lt (turn e f) (pos 0)) p (same_point_itself e.low) ∙ ap (λ v. int_lt v (pos 0)) w)
        (up_shared h k d f.low.y f.high.y start h<k (let g = rise_nonneg f in omega (arith, lin)) (λ l. subst (λ (v : ℤ). v <ℤ pos 0) w (upright e f r (omega (arith, lin)))))
    go false p true p' =
        let q = ap (λ (v : Point). v.y *ℤ pos 2) (same_points_equal f.high e.low p') in
        six_as _ _ _ _ _ _ _ _ _ _ false false (seen_low e f r) refl (seen_middle e f r) refl (and_first (is_same_point f.low e.low) false (is_level f) p) (gone (is_same_point f.low e.low) (is_same_point e.low e.low) (int_lt (turn e f) (pos 0)) p)
        (six_four _ _ _ _ (all_below (f.low.y *ℤ pos 2) (f.high.y *ℤ pos 2) h k
        (mix (toward e f.low) (toward e f.high) (h -ℤ f.low.y *ℤ pos 2) (f.high.y *ℤ pos 2 -ℤ f.low.y *ℤ pos 2)) (mix (toward e f.low) (toward e f.high) (k -ℤ f.low.y *ℤ pos 2) (f.high.y *ℤ pos 2 -ℤ f.low.y *ℤ pos 2))
        (toward e f.low) (toward e f.high) tall h<k (omega (arith, lin))))
    go false p false p' =
        let other : e ≢ f = λ s. true≢false (sym (point_eq f.low e.low (ap (λ (g : Edge). g.low) (sym s))) ∙ p) in
        let none = nowhere e f h k (apart other) r (omega (arith, lin)) (omega (arith, ints))
        (λ _. or_false (is_same_point f.low e.low) (is_same_point f.high e.low) (λ t. true≢false (sym t ∙ p)) (λ t. true≢false (sym t ∙ p'))) (λ l. absurd (omega (arith, ints))) in
        six_as _ _ _ _ _ _ _ _ _ _ false false (seen_low e f r) refl (seen_middle e f r) refl (and_first (is_same_point f.low e.low) false (is_level f) p) (gone (is_same_point f.low e.low) (is_same_point e.low e.low) (int_lt (turn e f) (pos 0)) p)
        (six_four _ _ _ _ (quiet (f.low.y *ℤ pos 2) (f.high.y *ℤ pos 2) h k (toward e f.low) (toward e f.high) tall h<k none))
