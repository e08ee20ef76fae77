-- The same for level edges.
use Rattle.std.proofs.Common.{◌≡◌, ◌≢◌, inl, inr, ◌%◌, refl, sym, ◌∙◌, ap, arith, Bool, true, false, true≢false, ◌&&◌, int_lt, pos, ◌+ℤ◌, ◌*ℤ◌, ◌<ℤ◌}
use Rattle.std.proofs.lemmas.Int.{ints}
use Rattle.plane_edge.specs.declared.edge.Edge.{Edge}
use Rattle.plane_edge.specs.declared.point.Point.{Point}
use Rattle.plane_edge.specs.Edges.{is_same_point, is_same_edge}
use Rattle.plane_edge.specs.Line.{whole, is_end_of}
use Rattle.plane_edge.specs.Middle.{middle_of}
use Rattle.plane_edge.specs.Plane.{is_crossed, side_of, run, rise, turn}
use Rattle.plane_edge.proofs.MeetLemmas.{rises}
use Rattle.plane_edge.proofs.OrderLemmas.{same_points_equal, same_edges_equal, same_point_itself, same_edge_itself}
use Rattle.plane_strip.proofs.MidLemmas.{lt_true, lt_false}
use Rattle.whole_ring.proofs.Laws.{*ℤ-zero}
use Rattle.whole_ring.proofs.Signs.{lin, either_way, pos-mul}
use Rattle.edge_sides.specs.Sides.{is_level}
use Rattle.edge_sides.proofs.Ranks.{is_not}
use Rattle.edge_sides.proofs.Meetings.{toward, AreApart, side-turn, turn-swap, side-middle, side-low, point_eq, or_true, or_false, differ, twins_low, twins_high, not_through}
use Rattle.edge_sides.proofs.Around.{six, is_floor, is_up, is_down, and_first, gone, kept, no_side, not_yet, no_more, flat, passed, eq_true, is_level-same, both_level, level_rise, rising_rise, six_as, six_two}

-- a rising edge turns to the left of a level one
level_turn : (e f : Edge) → rise e ≡ pos 0 → pos 0 <ℤ rise f → turn f e <ℤ pos 0
level_turn e f l r = elim (rises e) [
  | inl k ↦ absurd (omega (arith, lin))
  | inr k ↦ (let p = pos-mul (rise f) (run e) r k.1 in let z : run f *ℤ rise e ≡ pos 0 = ap (λ u. run f *ℤ u) l ∙ *ℤ-zero (run f) in omega (arith, lin))
]

not_same : (e f : Edge) → e ≢ f → is_same_edge e f ≡ false
not_same e f h = is_not (is_same_edge e f) (λ t. h (same_edges_equal e f t))

and_true : (a b : Bool) → a ≡ true → b ≡ true → (a && b) ≡ true
and_true true b h k = k
and_true false b h k = absurd (true≢false (sym h))

-- where f does not begin at the high end, the rays from the middle and from the low end cross it alike
alike_low : (e f : Edge) → rise e ≡ pos 0 → AreApart e f → is_crossed f (middle_of e) ≡ is_crossed f (whole e.low)
alike_low e f l apart = elim (either_way f.low.y e.low.y) [
  | inr p ↦ not_yet (f.low.y *ℤ pos 2) (e.low.y +ℤ e.high.y) (f.high.y *ℤ pos 2) (side_of f (middle_of e)) (omega (arith, ints)) ∙ sym (not_yet (f.low.y *ℤ pos 1) e.low.y (f.high.y *ℤ pos 1) (toward f e.low) (omega (arith, ints)))
  | inl p ↦ elim (either_way f.high.y e.low.y) [
    | inl q ↦ no_more (f.low.y *ℤ pos 2) (e.low.y +ℤ e.high.y) (f.high.y *ℤ pos 2) (side_of f (middle_of e)) (omega (arith, ints)) ∙ sym (no_more (f.low.y *ℤ pos 1) e.low.y (f.high.y *ℤ pos 1) (toward f e.low) (omega (arith, ints)))
    | inr q ↦
        let t = level_turn e f l (omega (arith, lin)) in
        let b = side-turn f e in
        let c = side-middle e f in
        elim (either_way (toward f e.low) (pos 0)) [
          | inl s ↦ no_side (f.low.y *ℤ pos 2) (e.low.y +ℤ e.high.y) (f.high.y *ℤ pos 2) (side_of f (middle_of e)) (omega (arith, lin)) ∙ sym (no_side (f.low.y *ℤ pos 1) e.low.y (f.high.y *ℤ pos 1) (toward f e.low) s)
          | inr s ↦ elim (either_way (pos 0) (toward f e.high)) [
            | inl u ↦ passed (f.low.y *ℤ pos 2) (e.low.y +ℤ e.high.y) (f.high.y *ℤ pos 2) (side_of f (middle_of e)) (omega (arith, ints)) (omega (arith, ints)) (omega (arith, lin)) ∙ sym (passed (f.low.y *ℤ pos 1) e.low.y (f.high.y *ℤ pos 1) (toward f e.low) (omega (arith, ints)) (omega (arith, ints)) s)
            | inr u ↦ absurd (not_through e f apart (omega (arith, lin)) p q s (omega (arith, lin)) (λ z. absurd (omega (arith, lin))))
          ]
        ]
  ]
]

alike_high : (e f : Edge) → rise e ≡ pos 0 → AreApart e f → is_end_of f e.high ≡ false → is_crossed f (middle_of e) ≡ is_crossed f (whole e.high)
alike_high e f l apart clear = elim (either_way f.low.y e.low.y) [
  | inr p ↦ not_yet (f.low.y *ℤ pos 2) (e.low.y +ℤ e.high.y) (f.high.y *ℤ pos 2) (side_of f (middle_of e)) (omega (arith, ints)) ∙ sym (not_yet (f.low.y *ℤ pos 1) e.high.y (f.high.y *ℤ pos 1) (toward f e.high) (omega (arith, ints)))
  | inl p ↦ elim (either_way f.high.y e.low.y) [
    | inl q ↦ no_more (f.low.y *ℤ pos 2) (e.low.y +ℤ e.high.y) (f.high.y *ℤ pos 2) (side_of f (middle_of e)) (omega (arith, ints)) ∙ sym (no_more (f.low.y *ℤ pos 1) e.high.y (f.high.y *ℤ pos 1) (toward f e.high) (omega (arith, ints)))
    | inr q ↦
        let t = level_turn e f l (omega (arith, lin)) in
        let b = side-turn f e in
        let c = side-middle e f in
        elim (either_way (toward f e.high) (pos 0)) [
          | inr s ↦ passed (f.low.y *ℤ pos 2) (e.low.y +ℤ e.high.y) (f.high.y *ℤ pos 2) (side_of f (middle_of e)) (omega (arith, ints)) (omega (arith, ints)) (omega (arith, lin)) ∙ sym (passed (f.low.y *ℤ pos 1) e.high.y (f.high.y *ℤ pos 1) (toward f e.high) (omega (arith, ints)) (omega (arith, ints)) s)
          | inl s ↦ elim (either_way (toward f e.low) (pos 0)) [
            | inl u ↦ no_side (f.low.y *ℤ pos 2) (e.low.y +ℤ e.high.y) (f.high.y *ℤ pos 2) (side_of f (middle_of e)) (omega (arith, lin)) ∙ sym (no_side (f.low.y *ℤ pos 1) e.high.y (f.high.y *ℤ pos 1) (toward f e.high) s)
            | inr u ↦ absurd (not_through e f apart (omega (arith, lin)) p q u s (λ z. clear))
          ]
        ]
  ]
]

-- ---- a level edge with its low end at the point
pub level_low : (e f : Edge) → rise e ≡ pos 0 → (e ≢ f → AreApart e f) → (e ≢ f → AreApart f e) →
    six (is_crossed f (middle_of e)) (is_crossed f (whole e.low)) (is_floor e.low f) (is_up e.low f e) (is_same_edge e f) false % 2 ≡ 0
level_low e f l apart back = go (is_same_point f.low e.low) refl (is_level f) refl (is_same_edge e f) refl
  where
    go : (b : Bool) → is_same_point f.low e.low ≡ b → (c : Bool) → is_level f ≡ c → (d : Bool) → is_same_edge e f ≡ d →
        six (is_crossed f (middle_of e)) (is_crossed f (whole e.low)) (is_floor e.low f) (is_up e.low f e) (is_same_edge e f) false % 2 ≡ 0
    go true p true p' false p'' =
        let other : e ≢ f = λ s. true≢false (sym (same_edge_itself e) ∙ ap (λ (g : Edge). is_same_edge e g) s ∙ p'') in
        absurd (twins_low e f (apart other) (back other) other (sym (same_points_equal f.low e.low p)) (both_level e f l (level_rise f p')))
    go true p true p' true p'' =
        let w = both_level e f l (level_rise f p') in
        six_as _ _ _ _ _ _ false false true false true false
        (flat (f.low.y *ℤ pos 2) (e.low.y +ℤ e.high.y) (f.high.y *ℤ pos 2) (side_of f (middle_of e)) (ap (λ u. u *ℤ pos 2) (eq_true f.low.y f.high.y p')))
        (flat (f.low.y *ℤ pos 1) e.low.y (f.high.y *ℤ pos 1) (toward f e.low) (ap (λ u. u *ℤ pos 1) (eq_true f.low.y f.high.y p')))
        (and_true (is_same_point f.low e.low) (is_level f) p p')
        (kept (is_same_point f.low e.low) (is_same_point e.low e.low) (int_lt (turn e f) (pos 0)) p (same_point_itself e.low) ∙ lt_false (turn e f) (pos 0) (omega (arith, lin)))
        p'' refl refl
    go true p false p' d p'' =
        let t = level_turn e f l (rising_rise f p') in
        let q = same_points_equal f.low e.low p in
        let z = ap (λ (v : Point). toward f v) (sym q) ∙ side-low f in
        let b = side-turn f e in
        let c = side-middle e f in
        let s = turn-swap e f in
        let other : e ≢ f = λ s. true≢false (sym (is_level-same e.low.y e.high.y (omega (arith, lin))) ∙ ap (λ (g : Edge). is_level g) s ∙ p') in
        six_as _ _ _ _ _ _ false false false false false false
        (no_side (f.low.y *ℤ pos 2) (e.low.y +ℤ e.high.y) (f.high.y *ℤ pos 2) (side_of f (middle_of e)) (omega (arith, lin)))
        (no_side (f.low.y *ℤ pos 1) e.low.y (f.high.y *ℤ pos 1) (toward f e.low) (omega (arith, lin)))
        (ap (λ v. is_same_point f.low e.low && v) p' ∙ and_first (is_same_point f.low e.low) true false p)
        (kept (is_same_point f.low e.low) (is_same_point e.low e.low) (int_lt (turn e f) (pos 0)) p (same_point_itself e.low) ∙ lt_false (turn e f) (pos 0) (omega (arith, lin)))
        (not_same e f other) refl refl
    go false p c p' d p'' =
        let other : e ≢ f = λ s. true≢false (sym (point_eq f.low e.low (ap (λ (g : Edge). g.low) (sym s))) ∙ p) in
        six_as _ _ _ _ _ _ (is_crossed f (whole e.low)) (is_crossed f (whole e.low)) false false false false
        (alike_low e f l (apart other)) refl
        (and_first (is_same_point f.low e.low) false (is_level f) p)
        (gone (is_same_point f.low e.low) (is_same_point e.low e.low) (int_lt (turn e f) (pos 0)) p)
        (not_same e f other) refl (six_two (is_crossed f (whole e.low)))

-- ---- a level edge with its high end at the point
pub level_high : (e f : Edge) → rise e ≡ pos 0 → (e ≢ f → AreApart e f) → (e ≢ f → AreApart f e) →
    six (is_crossed f (middle_of e)) (is_crossed f (whole e.high)) (is_floor e.high f) (is_down e.high f e) (is_end_of f e.high) (is_same_edge e f) % 2 ≡ 0
level_high e f l apart back = go (is_same_point f.high e.high) refl (is_same_point f.low e.high) refl (is_level f) refl (is_same_edge e f) refl
  where
    go : (a : Bool) → is_same_point f.high e.high ≡ a → (b : Bool) → is_same_point f.low e.high ≡ b → (c : Bool) → is_level f ≡ c → (d : Bool) → is_same_edge e f ≡ d →
        six (is_crossed f (middle_of e)) (is_crossed f (whole e.high)) (is_floor e.high f) (is_down e.high f e) (is_end_of f e.high) (is_same_edge e f) % 2 ≡ 0
    go true o b p true p' false p'' =
        let other : e ≢ f = λ s. true≢false (sym (same_edge_itself e) ∙ ap (λ (g : Edge). is_same_edge e g) s ∙ p'') in
        absurd (twins_high e f (apart other) (back other) other (sym (same_points_equal f.high e.high o)) (both_level e f l (level_rise f p')))
    go true o b p true p' true p'' =
        let w = both_level f e (level_rise f p') l in
        let q = same_points_equal f.high e.high o in
        let away : is_same_point f.low e.high ≡ false = is_not (is_same_point f.low e.high) (λ t. differ f (same_points_equal f.low e.high t ∙ sym q)) in
        six_as _ _ _ _ _ _ false false false false true true
        (flat (f.low.y *ℤ pos 2) (e.low.y +ℤ e.high.y) (f.high.y *ℤ pos 2) (side_of f (middle_of e)) (ap (λ u. u *ℤ pos 2) (eq_true f.low.y f.high.y p')))
        (flat (f.low.y *ℤ pos 1) e.high.y (f.high.y *ℤ pos 1) (toward f e.high) (ap (λ u. u *ℤ pos 1) (eq_true f.low.y f.high.y p')))
        (and_first (is_same_point f.low e.high) false (is_level f) away)
        (kept (is_same_point f.high e.high) (is_same_point e.high e.high) (int_lt (turn f e) (pos 0)) o (same_point_itself e.high) ∙ lt_false (turn f e) (pos 0) (omega (arith, lin)))
        (or_true (is_same_point f.low e.high) (is_same_point f.high e.high) (inr o)) p'' refl
    go true o b p false p' d p'' =
        let t = level_turn e f l (rising_rise f p') in
        let q = same_points_equal f.high e.high o in
        let y = ap (λ (v : Point). v.y) q in
        let away : is_same_point f.low e.high ≡ false = is_not (is_same_point f.low e.high) (λ t. differ f (same_points_equal f.low e.high t ∙ sym q)) in
        let other : e ≢ f = λ s. true≢false (sym (is_level-same e.low.y e.high.y (omega (arith, lin))) ∙ ap (λ (g : Edge). is_level g) s ∙ p') in
        six_as _ _ _ _ _ _ false false false true true false
        (no_more (f.low.y *ℤ pos 2) (e.low.y +ℤ e.high.y) (f.high.y *ℤ pos 2) (side_of f (middle_of e)) (omega (arith, ints)))
        (no_more (f.low.y *ℤ pos 1) e.high.y (f.high.y *ℤ pos 1) (toward f e.high) (omega (arith, ints)))
        (and_first (is_same_point f.low e.high) false (is_level f) away)
        (kept (is_same_point f.high e.high) (is_same_point e.high e.high) (int_lt (turn f e) (pos 0)) o (same_point_itself e.high) ∙ lt_true (turn f e) (pos 0) t)
        (or_true (is_same_point f.low e.high) (is_same_point f.high e.high) (inr o)) (not_same e f other) refl
    go false o true p true p' d p'' =
        let other : e ≢ f = λ s. true≢false (sym (point_eq f.high e.high (ap (λ (g : Edge). g.high) (sym s))) ∙ o) in
        six_as _ _ _ _ _ _ false false true false true false
        (flat (f.low.y *ℤ pos 2) (e.low.y +ℤ e.high.y) (f.high.y *ℤ pos 2) (side_of f (middle_of e)) (ap (λ u. u *ℤ pos 2) (eq_true f.low.y f.high.y p')))
        (flat (f.low.y *ℤ pos 1) e.high.y (f.high.y *ℤ pos 1) (toward f e.high) (ap (λ u. u *ℤ pos 1) (eq_true f.low.y f.high.y p')))
        (and_true (is_same_point f.low e.high) (is_level f) p p')
        (gone (is_same_point f.high e.high) (is_same_point e.high e.high) (int_lt (turn f e) (pos 0)) o)
        (or_true (is_same_point f.low e.high) (is_same_point f.high e.high) (inl p)) (not_same e f other) refl
    go false o true p false p' d p'' =
        let other : e ≢ f = λ s. true≢false (sym (point_eq f.high e.high (ap (λ (g : Edge). g.high) (sym s))) ∙ o) in
        let r = rising_rise f p' in
        let t = level_turn e f l r in
        let q = same_points_equal f.low e.high p in
        let y = ap (λ (v : Point). v.y) q in
        let z = ap (λ (v : Point). toward f v) (sym q) ∙ side-low f in
        let b = side-turn f e in
        let c = side-middle e f in
        six_as _ _ _ _ _ _ true false false false true false
        (passed (f.low.y *ℤ pos 2) (e.low.y +ℤ e.high.y) (f.high.y *ℤ pos 2) (side_of f (middle_of e)) (omega (arith, ints)) (omega (arith, ints)) (omega (arith, lin)))
        (no_side (f.low.y *ℤ pos 1) e.high.y (f.high.y *ℤ pos 1) (toward f e.high) (omega (arith, lin)))
        (ap (λ v. is_same_point f.low e.high && v) p' ∙ and_first (is_same_point f.low e.high) true false p)
        (gone (is_same_point f.high e.high) (is_same_point e.high e.high) (int_lt (turn f e) (pos 0)) o)
        (or_true (is_same_point f.low e.high) (is_same_point f.high e.high) (inl p)) (not_same e f other) refl
    go false o false p c p' d p'' =
        let other : e ≢ f = λ s. true≢false (sym (point_eq f.high e.high (ap (λ (g : Edge). g.high) (sym s))) ∙ o) in
        let clear : is_end_of f e.high ≡ false = or_false (is_same_point f.low e.high) (is_same_point f.high e.high) (λ t. true≢false (sym t ∙ p)) (λ t. true≢false (sym t ∙ o)) in
        six_as _ _ _ _ _ _ (is_crossed f (whole e.high)) (is_crossed f (whole e.high)) false false false false
        (alike_high e f l (apart other) clear) refl
        (and_first (is_same_point f.low e.high) false (is_level f) p)
        (gone (is_same_point f.high e.high) (is_same_point e.high e.high) (int_lt (turn f e) (pos 0)) o)
        clear (not_same e f other) (six_two (is_crossed f (whole e.high)))
