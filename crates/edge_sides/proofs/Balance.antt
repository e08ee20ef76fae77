-- At each point as many edges start as finish.
use Rattle.std.proofs.Common.{◌≡◌, ◌≢◌, ◌⊎◌, inl, inr, ℕ, zero, suc, ◌+◌, ◌%◌, ◌==◌, ◌<◌, refl, sym, ◌∙◌, ap, subst, arith, Bool, true, false, true≢false, ◌&&◌, not, if◌then◌else◌, int_lt, List, [], ◌∷◌, All, Contains, count_by, get_or, ℤ, pos, ◌+ℤ◌, ◌-ℤ◌, ◌*ℤ◌, ◌≤ℤ◌, ◌<ℤ◌}
use Rattle.std.proofs.lemmas.List.Elements.{All-head, All-tail, All-weaker, All-contains_itself}
use Rattle.plane_edge.specs.declared.edge.Edge.{Edge}
use Rattle.plane_edge.specs.declared.point.Point.{Point}
use Rattle.plane_edge.specs.Edges.{is_same_point, is_same_edge, IsRisingEdges, HaveEvenEnds, occurrences}
use Rattle.plane_edge.specs.Line.{whole, is_end_of}
use Rattle.plane_edge.specs.Middle.{middle_of}
use Rattle.plane_edge.specs.Plane.{is_crossed, run, rise, turn}
use Rattle.plane_edge.proofs.EndLemmas.{ends, ends_even, ends_counted}
use Rattle.plane_edge.proofs.EvenLists.{bit, count-cons}
use Rattle.plane_edge.proofs.MeetLemmas.{rises, rise_nonneg}
use Rattle.plane_edge.proofs.OddLemmas.{occurs_once, occurs_from_contains, count-none}
use Rattle.plane_edge.proofs.OrderLemmas.{same_points_equal, edge_below-differ}
use Rattle.plane_strip.specs.Strip.{IsPlanar}
use Rattle.plane_strip.proofs.MidLemmas.{lt_true, lt_false, from_lt_true}
use Rattle.whole_ring.proofs.Laws.{zero-*ℤ, *ℤ_comm}
use Rattle.whole_ring.proofs.Ring.{ring, var, con, ◌⊕◌, ◌⊖◌, ◌⊗◌}
use Rattle.whole_ring.proofs.Signs.{lin, sign, none, above, below, pos-mul, neg-mul, nonneg-mul}
use Rattle.edge_sides.specs.Sides.{is_level, is_leftward, start_of, finish_of}
use Rattle.edge_sides.specs.Laws.{AreBalanced}
use Rattle.edge_sides.proofs.Ranks.{is_even, is_not, count-equal, count-two, rank, IsTotal, IsOrder, ranks}
use Rattle.edge_sides.proofs.Meetings.{turn-swap, twins_low, twins_high}
use Rattle.edge_sides.proofs.Around.{six, is_floor, is_up, is_down, is_beside, level_rise, rising_rise, up_edge}
use Rattle.edge_sides.proofs.Below.{down_edge}
use Rattle.edge_sides.proofs.Level.{level_low, level_high}

-- ---- sums
count-six : {X : Type 0} (p q r s t u : X → Bool) (xs : List X) → All (λ x. six (p x) (q x) (r x) (s x) (t x) (u x) % 2 ≡ 0) xs →
    (((count_by p xs + count_by q xs) + (count_by r xs + count_by s xs)) + (count_by t xs + count_by u xs)) % 2 ≡ 0
count-six p q r s t u [] h = refl
count-six p q r s t u (x ∷ xs) h =
    let here = All-head (λ y. six (p y) (q y) (r y) (s y) (t y) (u y) % 2 ≡ 0) x xs h in
    let rest = count-six p q r s t u xs (All-tail (λ y. six (p y) (q y) (r y) (s y) (t y) (u y) % 2 ≡ 0) x xs h) in
    omega (arith, count-cons p x xs, count-cons q x xs, count-cons r x xs, count-cons s x xs, count-cons t x xs, count-cons u x xs)

ends_split : (g : Point → Bool) (es : List Edge) → count_by g (ends es) ≡ count_by (λ e. g e.low) es + count_by (λ e. g e.high) es
ends_split g [] = refl
ends_split g (e ∷ es) = omega (arith, count-cons g e.low (e.high ∷ ends es), count-cons g e.high (ends es), count-cons (λ f. g f.low) e es, count-cons (λ f. g f.high) e es, ends_split g es)

count-false : {X : Type 0} (xs : List X) → count_by (λ x. false) xs ≡ 0
count-false xs = count-none (λ x. false) xs (λ k d l. refl)

-- ---- parity
half_of : (m : ℕ) → (m % 2 ≡ 0) ⊎ (m % 2 ≡ 1)
half_of m = part (m % 2) (omega arith)
  where
    part : (n : ℕ) → n < 2 → (n ≡ 0) ⊎ (n ≡ 1)
    part zero h = inl refl
    part (suc n) h = inr (omega arith)

test_same : (m n : ℕ) → (m + n) % 2 ≡ 0 → not ((m % 2) == 1) ≡ is_even n
test_same m n h = elim (half_of m) [
  | inl p ↦ (let q : n % 2 ≡ 0 = omega arith in ap (λ (i : ℕ). not (i == 1)) p ∙ sym (ap (λ (i : ℕ). i == 0) q))
  | inr p ↦ (let q : n % 2 ≡ 1 = omega arith in ap (λ (i : ℕ). not (i == 1)) p ∙ sym (ap (λ (i : ℕ). i == 0) q))
]

test_other : (m n : ℕ) → (m + n) % 2 ≡ 1 → ((m % 2) == 1) ≡ is_even n
test_other m n h = elim (half_of m) [
  | inl p ↦ (let q : n % 2 ≡ 1 = omega arith in ap (λ (i : ℕ). i == 1) p ∙ sym (ap (λ (i : ℕ). i == 0) q))
  | inr p ↦ (let q : n % 2 ≡ 0 = omega arith in ap (λ (i : ℕ). i == 1) p ∙ sym (ap (λ (i : ℕ). i == 0) q))
]

-- ---- the direction of an edge by its rank
-- how many edges the ray from just below the point, to the right, crosses
abbrev across : List Edge → Point → ℕ
across es p = count_by (λ f. is_crossed f (whole p)) es + count_by (is_floor p) es

pub once : (e : Edge) (es : List Edge) → IsRisingEdges es → Contains es e → occurrences e es ≡ 1
once e es r c = omega (arith, occurs_once e es r, occurs_from_contains e es c)

leftward_rising : (es : List Edge) (e : Edge) → is_level e ≡ false → is_leftward es e ≡ not ((count_by (λ f. is_crossed f (middle_of e)) es % 2) == 1)
leftward_rising es e h = ap (λ b. if b then ((count_by (λ f. is_crossed f (middle_of e)) es % 2) == 1) else not ((count_by (λ f. is_crossed f (middle_of e)) es % 2) == 1)) h

leftward_level : (es : List Edge) (e : Edge) → is_level e ≡ true → is_leftward es e ≡ ((count_by (λ f. is_crossed f (middle_of e)) es % 2) == 1)
leftward_level es e h = ap (λ b. if b then ((count_by (λ f. is_crossed f (middle_of e)) es % 2) == 1) else not ((count_by (λ f. is_crossed f (middle_of e)) es % 2) == 1)) h

each : (Q : Edge → Type 0) (es : List Edge) → ((f : Edge) → Contains es f → Q f) → All Q es
each Q es h = All-weaker (Contains es) Q h es (All-contains_itself es)

up_direction : (es : List Edge) (e : Edge) → IsRisingEdges es → HaveEvenEnds es → IsPlanar es → Contains es e → is_leftward es e ≡ is_even (across es e.low + rank (is_up e.low) es e)
up_direction es e rising even planar c = go (is_level e) refl
  where
    M : ℕ
    M = count_by (λ f. is_crossed f (middle_of e)) es

    go : (b : Bool) → is_level e ≡ b → is_leftward es e ≡ is_even (across es e.low + rank (is_up e.low) es e)
    go false h =
        let T = is_beside e (e.low.y *ℤ pos 2) (e.low.y +ℤ e.high.y) in
        let r = rising_rise e h in
        let sum = count-six (λ f. is_crossed f (whole e.low)) (λ f. T f.low) (λ f. is_crossed f (middle_of e)) (λ f. T f.high) (is_floor e.low) (λ f. is_up e.low f e) es
        (each (λ f. six (is_crossed f (whole e.low)) (T f.low) (is_crossed f (middle_of e)) (T f.high) (is_floor e.low f) (is_up e.low f e) % 2 ≡ 0) es (λ f d. up_edge e f r (planar e f c d))) in
        leftward_rising es e h ∙ test_same M (across es e.low + rank (is_up e.low) es e) (omega (arith, ends_even es even T, ends_split T es))
    go true h =
        let sum = count-six (λ f. is_crossed f (middle_of e)) (λ f. is_crossed f (whole e.low)) (is_floor e.low) (λ f. is_up e.low f e) (λ f. is_same_edge e f) (λ f. false) es
        (each (λ f. six (is_crossed f (middle_of e)) (is_crossed f (whole e.low)) (is_floor e.low f) (is_up e.low f e) (is_same_edge e f) false % 2 ≡ 0) es (λ f d. level_low e f (level_rise e h) (planar e f c d) (λ o. planar f e d c (λ q. o (sym q))))) in
        leftward_level es e h ∙ test_other M (across es e.low + rank (is_up e.low) es e) (omega (arith, once e es rising c, count-false es))

down_direction : (es : List Edge) (e : Edge) → IsRisingEdges es → HaveEvenEnds es → IsPlanar es → Contains es e → is_leftward es e ≡ is_even (across es e.high + rank (is_down e.high) es e)
down_direction es e rising even planar c = go (is_level e) refl
  where
    M : ℕ
    M = count_by (λ f. is_crossed f (middle_of e)) es

    go : (b : Bool) → is_level e ≡ b → is_leftward es e ≡ is_even (across es e.high + rank (is_down e.high) es e)
    go false h =
        let T = is_beside e (e.low.y +ℤ e.high.y) (e.high.y *ℤ pos 2) in
        let r = rising_rise e h in
        let sum = count-six (λ f. is_crossed f (middle_of e)) (λ f. T f.low) (λ f. is_crossed f (whole e.high)) (λ f. T f.high) (is_floor e.high) (λ f. is_down e.high f e) es
        (each (λ f. six (is_crossed f (middle_of e)) (T f.low) (is_crossed f (whole e.high)) (T f.high) (is_floor e.high f) (is_down e.high f e) % 2 ≡ 0) es (λ f d. down_edge e f r (planar e f c d))) in
        leftward_rising es e h ∙ test_same M (across es e.high + rank (is_down e.high) es e) (omega (arith, ends_even es even T, ends_split T es))
    go true h =
        let sum = count-six (λ f. is_crossed f (middle_of e)) (λ f. is_crossed f (whole e.high)) (is_floor e.high) (λ f. is_down e.high f e) (λ f. is_end_of f e.high) (λ f. is_same_edge e f) es
        (each (λ f. six (is_crossed f (middle_of e)) (is_crossed f (whole e.high)) (is_floor e.high f) (is_down e.high f e) (is_end_of f e.high) (is_same_edge e f) % 2 ≡ 0) es (λ f d. level_high e f (level_rise e h) (planar e f c d) (λ o. planar f e d c (λ q. o (sym q))))) in
        leftward_level es e h ∙ test_other M (across es e.high + rank (is_down e.high) es e) (omega (arith, once e es rising c, even e.high))

-- ---- the orders at a point
turn-self : (e : Edge) → turn e e ≡ pos 0
turn-self e = ring (run e ∷ rise e ∷ []) (var 0 ⊗ var 1 ⊖ var 1 ⊗ var 0) (con (pos 0)) refl

turn-chain : (u v w : Edge) → turn u w *ℤ rise v ≡ turn u v *ℤ rise w +ℤ turn v w *ℤ rise u
turn-chain u v w = ring (run u ∷ rise u ∷ run v ∷ rise v ∷ run w ∷ rise w ∷ [])
    ((var 0 ⊗ var 5 ⊖ var 1 ⊗ var 4) ⊗ var 3) ((var 0 ⊗ var 3 ⊖ var 1 ⊗ var 2) ⊗ var 5 ⊕ (var 2 ⊗ var 5 ⊖ var 3 ⊗ var 4) ⊗ var 1) refl

-- a level edge has nothing to its right
none_right : (u v : Edge) → rise u ≡ pos 0 → pos 0 <ℤ run u → pos 0 ≤ℤ turn u v
none_right u v h k =
    let p = nonneg-mul (run u) (rise v) (omega (arith, lin)) (rise_nonneg v) in
    let z : rise u *ℤ run v ≡ pos 0 = ap (λ x. x *ℤ run v) h ∙ zero-*ℤ (run v) in omega (arith, lin)

minus-mul : (a b : ℤ) → a <ℤ pos 0 → pos 0 ≤ℤ b → (a *ℤ b) ≤ℤ pos 0
minus-mul a b h k =
    let p = nonneg-mul (pos 0 -ℤ a) b (omega (arith, lin)) k in
    let e : (pos 0 -ℤ a) *ℤ b ≡ pos 0 -ℤ a *ℤ b = ring (a ∷ b ∷ []) ((con (pos 0) ⊖ var 0) ⊗ var 1) (con (pos 0) ⊖ var 0 ⊗ var 1) refl in omega (arith, lin)

turn-trans : (u v w : Edge) → turn u v <ℤ pos 0 → turn v w <ℤ pos 0 → turn u w <ℤ pos 0
turn-trans u v w h k = elim (rises u) [
  | inr l ↦ absurd (let p = none_right u v l.0 l.1 in omega (arith, lin))
  | inl ru ↦ elim (rises v) [
    | inr l ↦ absurd (let p = none_right v w l.0 l.1 in omega (arith, lin))
    | inl rv ↦ elim (sign (turn u w)) [
      | below s ↦ s
      | none s ↦ absurd (let a = minus-mul (turn u v) (rise w) h (rise_nonneg w) in let b = neg-mul (rise u) (turn v w) ru k in let z : turn u w *ℤ rise v ≡ pos 0 = ap (λ x. x *ℤ rise v) s ∙ zero-*ℤ (rise v) in omega (arith, lin, turn-chain u v w, *ℤ_comm (rise u) (turn v w)))
      | above s ↦ absurd (let a = minus-mul (turn u v) (rise w) h (rise_nonneg w) in let b = neg-mul (rise u) (turn v w) ru k in let z = pos-mul (turn u w) (rise v) s rv in omega (arith, lin, turn-chain u v w, *ℤ_comm (rise u) (turn v w)))
    ]
  ]
]

and_parts : (a b c : Bool) → ((a && b) && c) ≡ true → (a ≡ true) × (b ≡ true) × (c ≡ true)
and_parts true true true h = (refl, refl, refl)
and_parts true true false h = absurd (true≢false (sym h))
and_parts true false c h = absurd (true≢false (sym h))
and_parts false b c h = absurd (true≢false (sym h))

and_three : (a b c : Bool) → a ≡ true → b ≡ true → c ≡ true → ((a && b) && c) ≡ true
and_three true true true p q r = refl
and_three true true false p q r = absurd (true≢false (sym r))
and_three true false c p q r = absurd (true≢false (sym q))
and_three false b c p q r = absurd (true≢false (sym p))

and_last : (a b c d : Bool) → c ≡ d → d ≡ false → ((a && b) && c) ≡ false
and_last a b c d p q = is_not ((a && b) && c) (λ t. true≢false (sym (and_parts a b c t).2 ∙ p ∙ q))

itself : (e : Edge) → int_lt (turn e e) (pos 0) ≡ false
itself e = lt_false (turn e e) (pos 0) (let z = turn-self e in omega (arith, lin))

chain : (u v w : Edge) → int_lt (turn u v) (pos 0) ≡ true → int_lt (turn v w) (pos 0) ≡ true → int_lt (turn u w) (pos 0) ≡ true
chain u v w h k = lt_true (turn u w) (pos 0) (turn-trans u v w (from_lt_true (turn u v) (pos 0) h) (from_lt_true (turn v w) (pos 0) k))

opposed : (u v : Edge) → turn u v ≢ pos 0 → int_lt (turn u v) (pos 0) ≡ not (int_lt (turn v u) (pos 0))
opposed u v h = elim (sign (turn u v)) [
  | none s ↦ absurd (h s)
  | below s ↦ (let w = turn-swap u v in lt_true (turn u v) (pos 0) s ∙ sym (ap not (lt_false (turn v u) (pos 0) (omega (arith, lin)))))
  | above s ↦ (let w = turn-swap u v in lt_false (turn u v) (pos 0) (omega (arith, lin)) ∙ sym (ap not (lt_true (turn v u) (pos 0) (omega (arith, lin)))))
]

up_order : (p : Point) → IsOrder (is_up p) (λ e. is_same_point e.low p)
up_order p = record {
  strict = λ x. and_last (is_same_point x.low p) (is_same_point x.low p) (int_lt (turn x x) (pos 0)) (int_lt (turn x x) (pos 0)) refl (itself x);
  trans = λ x y z h k.
      (let a = and_parts (is_same_point x.low p) (is_same_point y.low p) (int_lt (turn y x) (pos 0)) h in
      let b = and_parts (is_same_point y.low p) (is_same_point z.low p) (int_lt (turn z y) (pos 0)) k in
      and_three (is_same_point x.low p) (is_same_point z.low p) (int_lt (turn z x) (pos 0)) a.0 b.1 (chain z y x b.2 a.2));
}

down_order : (p : Point) → IsOrder (is_down p) (λ e. is_same_point e.high p)
down_order p = record {
  strict = λ x. and_last (is_same_point x.high p) (is_same_point x.high p) (int_lt (turn x x) (pos 0)) (int_lt (turn x x) (pos 0)) refl (itself x);
  trans = λ x y z h k.
      (let a = and_parts (is_same_point x.high p) (is_same_point y.high p) (int_lt (turn x y) (pos 0)) h in
      let b = and_parts (is_same_point y.high p) (is_same_point z.high p) (int_lt (turn y z) (pos 0)) k in
      and_three (is_same_point x.high p) (is_same_point z.high p) (int_lt (turn x z) (pos 0)) a.0 b.1 (chain x y z a.2 b.2));
}

by_turn : (a b c d : Bool) → a ≡ true → b ≡ true → c ≡ not d → ((a && b) && c) ≡ not ((b && a) && d)
by_turn true true c d p q r = r
by_turn true false c d p q r = absurd (true≢false (sym q))
by_turn false b c d p q r = absurd (true≢false (sym p))

up_total : (p : Point) (all es : List Edge) → IsPlanar all → IsRisingEdges es → All (Contains all) es → IsTotal (is_up p) (λ e. is_same_point e.low p) es
up_total p all [] planar r h = tt
up_total p all (x ∷ es) planar r h = (
  (λ i d l hx hy.
      (let y = get_or es i d in
      let cx = All-head (Contains all) x es h in
      let cy = All-tail (Contains all) x es h i d l in
      let other : x ≢ y = edge_below-differ x y (r.0 i d l) in
      let same : y.low ≡ x.low = same_points_equal y.low p hy ∙ sym (same_points_equal x.low p hx) in
      by_turn (is_same_point x.low p) (is_same_point y.low p) (int_lt (turn y x) (pos 0)) (int_lt (turn x y) (pos 0)) hx hy
      (opposed y x (twins_low y x (planar y x cy cx (λ q. other (sym q))) (planar x y cx cy other) (λ q. other (sym q)) same)))),
  up_total p all es planar r.1 (All-tail (Contains all) x es h),
)

down_total : (p : Point) (all es : List Edge) → IsPlanar all → IsRisingEdges es → All (Contains all) es → IsTotal (is_down p) (λ e. is_same_point e.high p) es
down_total p all [] planar r h = tt
down_total p all (x ∷ es) planar r h = (
  (λ i d l hx hy.
      (let y = get_or es i d in
      let cx = All-head (Contains all) x es h in
      let cy = All-tail (Contains all) x es h i d l in
      let other : x ≢ y = edge_below-differ x y (r.0 i d l) in
      let same : x.high ≡ y.high = same_points_equal x.high p hx ∙ sym (same_points_equal y.high p hy) in
      by_turn (is_same_point x.high p) (is_same_point y.high p) (int_lt (turn x y) (pos 0)) (int_lt (turn y x) (pos 0)) hx hy
      (opposed x y (twins_high x y (planar x y cx cy other) (planar y x cy cx (λ q. other (sym q))) other same)))),
  down_total p all es planar r.1 (All-tail (Contains all) x es h),
)

-- ---- the balance
in_part : (b c d : Bool) → (b ≡ true → c ≡ d) → (b && c) ≡ (b && d)
in_part true c d h = h refl
in_part false c d h = refl

and_true : (b : Bool) → bit (b && true) ≡ bit b
and_true true = refl
and_true false = refl

and_false : (b : Bool) → bit (b && false) ≡ 0
and_false true = refl
and_false false = refl

starts : (l : Bool) (e : Edge) (p : Point) → bit (is_same_point (if l then e.low else e.high) p) + bit (is_same_point e.high p && l) ≡ bit (is_same_point e.low p && l) + bit (is_same_point e.high p)
starts true e p = let a = and_true (is_same_point e.high p) in let b = and_true (is_same_point e.low p) in omega arith
starts false e p = let a = and_false (is_same_point e.high p) in let b = and_false (is_same_point e.low p) in omega arith

finishes : (l : Bool) (e : Edge) (p : Point) → bit (is_same_point (if l then e.high else e.low) p) + bit (is_same_point e.low p && l) ≡ bit (is_same_point e.high p && l) + bit (is_same_point e.low p)
finishes true e p = let a = and_true (is_same_point e.high p) in let b = and_true (is_same_point e.low p) in omega arith
finishes false e p = let a = and_false (is_same_point e.high p) in let b = and_false (is_same_point e.low p) in omega arith

pub balance : (es : List Edge) → IsRisingEdges es → HaveEvenEnds es → IsPlanar es → AreBalanced es
balance es rising even planar p =
    let n = across es p in
    let low : Edge → Bool = λ e. is_same_point e.low p in
    let high : Edge → Bool = λ e. is_same_point e.high p in
    let left : Edge → Bool = λ e. is_leftward es e in
    let held = All-contains_itself es in
    let up = ranks (is_up p) low (up_order p) es (up_total p es es planar rising held) low n (λ x h. h) (λ x y h k. (and_parts (is_same_point x.low p) (is_same_point y.low p) (int_lt (turn y x) (pos 0)) h).0) in
    let down = ranks (is_down p) high (down_order p) es (down_total p es es planar rising held) high n (λ x h. h) (λ x y h k. (and_parts (is_same_point x.high p) (is_same_point y.high p) (int_lt (turn x y) (pos 0)) h).0) in
    let ups : count_by (λ e. low e && left e) es ≡ count_by (λ e. low e && is_even (n + rank (is_up p) es e)) es =
    count-equal (λ e. low e && left e) (λ e. low e && is_even (n + rank (is_up p) es e)) es
    (each (λ e. (low e && left e) ≡ (low e && is_even (n + rank (is_up p) es e))) es
    (λ e c. in_part (low e) (left e) (is_even (n + rank (is_up p) es e)) (λ h. subst (λ (q : Point). left e ≡ is_even (across es q + rank (is_up q) es e)) (same_points_equal e.low p h) (up_direction es e rising even planar c)))) in
    let downs : count_by (λ e. high e && left e) es ≡ count_by (λ e. high e && is_even (n + rank (is_down p) es e)) es =
    count-equal (λ e. high e && left e) (λ e. high e && is_even (n + rank (is_down p) es e)) es
    (each (λ e. (high e && left e) ≡ (high e && is_even (n + rank (is_down p) es e))) es
    (λ e c. in_part (high e) (left e) (is_even (n + rank (is_down p) es e)) (λ h. subst (λ (q : Point). left e ≡ is_even (across es q + rank (is_down q) es e)) (same_points_equal e.high p h) (down_direction es e rising even planar c)))) in
    let start = count-two (λ e. is_same_point (start_of es e) p) (λ e. high e && left e) (λ e. low e && left e) high es (λ k d l. starts (left (get_or es k d)) (get_or es k d) p) in
    let finish = count-two (λ e. is_same_point (finish_of es e) p) (λ e. low e && left e) (λ e. high e && left e) low es (λ k d l. finishes (left (get_or es k d)) (get_or es k d) p) in
    let all : (count_by low es + count_by high es) % 2 ≡ 0 = omega (arith, ends_counted p es, even p, ends_split (λ q. is_same_point q p) es) in
    omega arith
