-- The same for rising edges with their high end at the point.
use Rattle.std.proofs.Common.{◌≡◌, ◌≢◌, inl, inr, ◌%◌, refl, sym, ◌∙◌, ap, subst, arith, Bool, true, false, true≢false, ◌&&◌, int_lt, int_le, ℤ, pos, ◌+ℤ◌, ◌-ℤ◌, ◌*ℤ◌, ◌≤ℤ◌, ◌<ℤ◌}
use Rattle.std.specs.Ordering.{int_eq}
use Rattle.std.proofs.lemmas.Int.{ints}
use Rattle.plane_edge.specs.declared.edge.Edge.{Edge}
use Rattle.plane_edge.specs.declared.point.Point.{Point}
use Rattle.plane_edge.specs.Edges.{is_same_point}
use Rattle.plane_edge.specs.Line.{whole}
use Rattle.plane_edge.specs.Middle.{middle_of}
use Rattle.plane_edge.specs.Plane.{is_crossed, side_of, rise, turn}
use Rattle.plane_edge.proofs.MeetLemmas.{rise_nonneg}
use Rattle.plane_edge.proofs.OrderLemmas.{same_points_equal, same_point_itself}
use Rattle.whole_ring.proofs.Signs.{lin, either_way}
use Rattle.edge_sides.specs.Sides.{is_level}
use Rattle.edge_sides.proofs.Ranks.{is_not}
use Rattle.edge_sides.proofs.Parts.{is_had, quiet}
use Rattle.edge_sides.proofs.Meetings.{toward, AreApart, side-turn, turn-swap, side-low, side-high, point_eq, or_false, differ, nowhere}
use Rattle.edge_sides.proofs.Around.{six, is_floor, is_down, is_beside, and_first, gone, kept, no_side, not_yet, had_zero, upto_split, times_sign, to_zero, seen_middle, seen_high, upright, six_as, six_four}

down_low : (a h k c : ℤ) → a ≤ℤ h → h <ℤ k → six ((int_le a h && int_lt h k) && int_lt c (pos 0)) (is_had h k a c) false false false (int_lt c (pos 0)) % 2 ≡ 0
down_low a h k c p q = grind (arith, ints)

down_high : (a h k c : ℤ) → h <ℤ a → a ≤ℤ k → six ((int_le a h && int_lt h k) && int_lt c (pos 0)) (is_had h k a c) false false false (int_lt c (pos 0)) % 2 ≡ 0
down_high a h k c p q = grind (arith, ints)

floor_level : (h k b d y z : ℤ) → h <ℤ k → b ≡ k → d <ℤ pos 0 → y ≡ z → six false false false (is_had h k b d) (int_eq y z) false % 2 ≡ 0
floor_level h k b d y z p q r e = grind (arith, ints)

floor_rising : (h k b d y z : ℤ) → k <ℤ b → y <ℤ z → six false false false (is_had h k b d) (int_eq y z) false % 2 ≡ 0
floor_rising h k b d y z p q = grind (arith, ints)

floor_shared : (h k d y z : ℤ) → y *ℤ pos 2 ≡ k → h <ℤ k → y ≤ℤ z → (y ≡ z → d <ℤ pos 0) → six false false false (is_had h k (z *ℤ pos 2) d) (int_eq y z) false % 2 ≡ 0
floor_shared h k d y z a p l n = elim (upto_split y z l) [
  | inl e ↦ floor_level h k (z *ℤ pos 2) d y z p (ap (λ u. u *ℤ pos 2) (sym e) ∙ a) (n e) e
  | inr e ↦ floor_rising h k (z *ℤ pos 2) d y z (omega (arith, ints)) e
]

pub down_edge : (e f : Edge) → pos 0 <ℤ rise e → (e ≢ f → AreApart e f) →
    six (is_crossed f (middle_of e)) (is_beside e (e.low.y +ℤ e.high.y) (e.high.y *ℤ pos 2) f.low) (is_crossed f (whole e.high)) (is_beside e (e.low.y +ℤ e.high.y) (e.high.y *ℤ pos 2) f.high) (is_floor e.high f) (is_down e.high f e) % 2 ≡ 0
down_edge e f r apart = go (is_same_point f.high e.high) refl (is_same_point f.low e.high) refl
  where
    h : ℤ
    h = e.low.y +ℤ e.high.y

    k : ℤ
    k = e.high.y *ℤ pos 2

    h<k : h <ℤ k
    h<k = omega (arith, ints)

    tall : (f.low.y *ℤ pos 2) ≤ℤ (f.high.y *ℤ pos 2)
    tall = let p = rise_nonneg f in omega (arith, ints)

    go : (b : Bool) → is_same_point f.high e.high ≡ b → (c : Bool) → is_same_point f.low e.high ≡ c →
        six (is_crossed f (middle_of e)) (is_beside e (e.low.y +ℤ e.high.y) (e.high.y *ℤ pos 2) f.low) (is_crossed f (whole e.high)) (is_beside e (e.low.y +ℤ e.high.y) (e.high.y *ℤ pos 2) f.high) (is_floor e.high f) (is_down e.high f e) % 2 ≡ 0
    go true p c p' =
        let q : f.high ≡ e.high = same_points_equal f.high e.high p in
        let stop : f.high.y *ℤ pos 2 ≡ k = ap (λ (v : Point). v.y *ℤ pos 2) q in
        let at : toward e f.high ≡ pos 0 = ap (λ (v : Point). toward e v) q ∙ side-high e in
        let d = toward e f.low in
        let a = f.low.y *ℤ pos 2 in
        let w : turn f e ≡ d = (let s = side-turn e f in let s' = turn-swap e f in omega (arith, lin)) in
        let away : is_same_point f.low e.high ≡ false = is_not (is_same_point f.low e.high) (λ t. differ f (same_points_equal f.low e.high t ∙ sym q)) in
        let n = h -ℤ a in
        let m = f.high.y *ℤ pos 2 -ℤ a in
        let seen : is_crossed f (middle_of e) ≡ ((int_le a h && int_lt h k) && int_lt d (pos 0)) =
        seen_middle e f r
        ∙ ap (λ v. (int_le a h && int_lt h (f.high.y *ℤ pos 2)) && int_lt v (pos 0)) (to_zero d (toward e f.high) n m at)
        ∙ ap (λ v. (int_le a h && int_lt h (f.high.y *ℤ pos 2)) && v) (times_sign d (m -ℤ n) (omega (arith, lin, h<k)))
        ∙ ap (λ v. (int_le a h && int_lt h v) && int_lt d (pos 0)) stop in
        let last : six ((int_le a h && int_lt h k) && int_lt d (pos 0)) (is_had h k a d) false false false (int_lt d (pos 0)) % 2 ≡ 0 = elim (either_way a h) [ inl t ↦ down_low a h k d t h<k | inr t ↦ down_high a h k d t (omega (arith, lin, tall)) ] in
        six_as _ _ _ _ _ _ ((int_le a h && int_lt h k) && int_lt d (pos 0)) (is_had h k a d) false false false (int_lt d (pos 0))
        seen refl
        (no_side (f.low.y *ℤ pos 1) e.high.y (f.high.y *ℤ pos 1) (toward f e.high) (let z = ap (λ (v : Point). toward f v) (sym q) ∙ side-high f in omega (arith, lin)))
        (had_zero h k (f.high.y *ℤ pos 2) (toward e f.high) at)
        (and_first (is_same_point f.low e.high) false (is_level f) away)
        (kept (is_same_point f.high e.high) (is_same_point e.high e.high) (int_lt (turn f e) (pos 0)) p (same_point_itself e.high) ∙ ap (λ v. int_lt v (pos 0)) w)
        last
    go false p true p' =
        let q : f.low ≡ e.high = same_points_equal f.low e.high p' in
        let start : f.low.y *ℤ pos 2 ≡ k = ap (λ (v : Point). v.y *ℤ pos 2) q in
        let at : toward e f.low ≡ pos 0 = ap (λ (v : Point). toward e v) q ∙ side-high e in
        let d = toward e f.high in
        let w : turn e f ≡ d = (let s = side-turn e f in omega (arith, lin)) in
        six_as _ _ _ _ _ _ false false false (is_had h k (f.high.y *ℤ pos 2) d) (int_eq f.low.y f.high.y) false
        (not_yet (f.low.y *ℤ pos 2) h (f.high.y *ℤ pos 2) (side_of f (middle_of e)) (omega (arith, lin, h<k)))
        (had_zero h k (f.low.y *ℤ pos 2) (toward e f.low) at)
        (no_side (f.low.y *ℤ pos 1) e.high.y (f.high.y *ℤ pos 1) (toward f e.high) (let z = ap (λ (v : Point). toward f v) (sym q) ∙ side-low f in omega (arith, lin)))
        refl
        (and_first (is_same_point f.low e.high) true (is_level f) p')
        (gone (is_same_point f.high e.high) (is_same_point e.high e.high) (int_lt (turn f e) (pos 0)) p)
        (floor_shared h k d f.low.y f.high.y start h<k (let g = rise_nonneg f in omega (arith, lin)) (λ l. subst (λ (v : ℤ). v <ℤ pos 0) w (upright e f r (omega (arith, lin)))))
    go false p false p' =
        let other : e ≢ f = λ s. true≢false (sym (point_eq f.high e.high (ap (λ (g : Edge). g.high) (sym s))) ∙ p) in
        let none = nowhere e f h k (apart other) r (omega (arith, ints)) (omega (arith, lin)) (λ l. absurd (omega (arith, ints)))
        (λ _. or_false (is_same_point f.low e.high) (is_same_point f.high e.high) (λ t. true≢false (sym t ∙ p')) (λ t. true≢false (sym t ∙ p))) in
        six_as _ _ _ _ _ _ _ _ _ _ false false (seen_middle e f r) refl (seen_high e f r) refl (and_first (is_same_point f.low e.high) false (is_level f) p') (gone (is_same_point f.high e.high) (is_same_point e.high e.high) (int_lt (turn f e) (pos 0)) p)
        (six_four _ _ _ _ (quiet (f.low.y *ℤ pos 2) (f.high.y *ℤ pos 2) h k (toward e f.low) (toward e f.high) tall h<k none))
