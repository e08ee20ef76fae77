-- A ring from one of its points on round, as a closed path.
use Rattle.std.proofs.Common.{◌≡◌, ◌≢◌, ◌⊎◌, inl, inr, ℕ, ◌+◌, ◌-◌, ◌<◌, ◌≤◌, refl, sym, ◌∙◌, ap, subst, arith, append_assoc, length-append, length-drop, List, [], ◌∷◌, ◌++◌, length, get_or, take, drop, AllPairs, Contains}
use Rattle.std.proofs.lemmas.List.{take_more, drop_more, take-append-drop, get_or_append_left, get_or-append-add, get_or-append_right, length-take, get_or_push, take_at}
use Rattle.plane_edge.specs.declared.point.Point.{Point}
use Rattle.plane_edge.specs.Rings.{in_order, steps_of_ring, IsRing}
use Rattle.ring_arcs.specs.Chains.{round_from, HasWay, IsCovered}
use Rattle.ring_arcs.specs.RingArcs.{steps_of_arc, without_last, IsTurnOf}
use Rattle.ring_arcs.proofs.Steps.{IsStepping, contains_step}
use Rattle.ring_arcs.proofs.WalkLemmas.{step_of_turn, round_steps, turn_itself}

abbrev AreDifferent : List Point → Type 0
AreDifferent ps = AllPairs (λ p q. p ≢ q) ps

-- the points of the ring from the one at that place on round, each once
abbrev pub turn_from : List Point → ℕ → List Point
turn_from ring at = drop at ring ++ take at ring

-- ---- points that are different stay so
left_at : (xs ys : List Point) (k : ℕ) (d : Point) → k < length ys → get_or (ys ++ xs) k d ≡ get_or (xs ++ ys) (length xs + k) d
left_at xs ys k d l = get_or_append_left ys xs d k l ∙ sym (get_or-append-add xs ys k d)

right_at : (xs ys : List Point) (k : ℕ) (d : Point) → length ys ≤ k → k < length (ys ++ xs) → get_or (ys ++ xs) k d ≡ get_or (xs ++ ys) (k - length ys) d
right_at xs ys k d l m =
    let n : k - length ys < length xs = omega (arith, length-append ys xs) in
    get_or-append_right ys xs (length ys) k d refl l ∙ sym (get_or_append_left xs ys d (k - length ys) n)

below_or_not : (k n : ℕ) → (k < n) ⊎ (n ≤ k)
below_or_not k n = grind arith

different_turn : (xs ys : List Point) → AreDifferent (xs ++ ys) → AreDifferent (ys ++ xs)
different_turn xs ys h i j d l m =
    let n : length (ys ++ xs) ≡ length ys + length xs = length-append ys xs in
    let o : length (xs ++ ys) ≡ length xs + length ys = length-append xs ys in
    elim (below_or_not j (length ys)) [
      | inl b ↦ (λ e. h (length xs + i) (length xs + j) d (omega arith) (omega arith) (sym (left_at xs ys i d (omega arith)) ∙ e ∙ left_at xs ys j d b))
      | inr b ↦ (elim (below_or_not i (length ys)) [
        | inl a ↦ (λ e. h (j - length ys) (length xs + i) d (omega arith) (omega arith) (sym (right_at xs ys j d b m) ∙ sym e ∙ left_at xs ys i d a))
        | inr a ↦ (λ e. h (i - length ys) (j - length ys) d (omega arith) (omega arith) (sym (right_at xs ys i d a (omega arith)) ∙ e ∙ right_at xs ys j d b m))
      ])
    ]

-- ---- a path of different points, and its first point again
closed_differ : (r : List Point) (p : Point) (i j : ℕ) (d : Point) → AreDifferent r → get_or r 0 d ≡ p → i < j → j ≤ length r → (0 < i) ⊎ (j < length r) → get_or (r ++ p ∷ []) i d ≢ get_or (r ++ p ∷ []) j d
closed_differ r p i j d h z l m c = elim (below_or_not j (length r)) [
  | inl b ↦ (λ e. h i j d l b (sym (get_or_append_left r (p ∷ []) d i (omega arith)) ∙ e ∙ get_or_append_left r (p ∷ []) d j b))
  | inr b ↦
      let inner : 0 < i = (elim c [
        | inl a ↦ a
        | inr a ↦ absurd (omega arith)
      ]) in
      let last : get_or (r ++ p ∷ []) j d ≡ p = get_or_push r p d j (omega arith) in
      (λ e. h 0 i d inner (omega arith) (z ∙ sym last ∙ sym e ∙ get_or_append_left r (p ∷ []) d i (omega arith)))
]

-- ---- the round of a ring
pub round_is : (ring : List Point) (at : ℕ) (d : Point) → at < length ring → round_from ring at ≡ turn_from ring at ++ get_or ring at d ∷ []
round_is ring at d l = ap (λ (t : List Point). drop at ring ++ t) (take_more ring at d l) ∙ sym (append_assoc (drop at ring) (take at ring) (get_or ring at d ∷ []))

turn_starts : (ring : List Point) (at : ℕ) (d : Point) → at < length ring → turn_from ring at ≡ get_or ring at d ∷ (drop (at + 1) ring ++ take at ring)
turn_starts ring at d l = ap (λ (t : List Point). t ++ take at ring) (drop_more ring at d l)

turn_first : (ring : List Point) (at : ℕ) (d : Point) → at < length ring → get_or (turn_from ring at) 0 d ≡ get_or ring at d
turn_first ring at d l = ap (λ (t : List Point). get_or t 0 d) (turn_starts ring at d l)

pub length-turn : (ring : List Point) (at : ℕ) → at < length ring → length (turn_from ring at) ≡ length ring
length-turn ring at l = omega (arith, length-append (drop at ring) (take at ring), length-drop at ring, length-take at ring)

pub length-round : (ring : List Point) (at : ℕ) → at < length ring → length (round_from ring at) ≡ length ring + 1
length-round ring at l = omega (arith, length-append (drop at ring) (take (at + 1) ring), length-drop at ring, length-take (at + 1) ring)

turn_differs : (ring : List Point) (at : ℕ) → IsRing ring → AreDifferent (turn_from ring at)
turn_differs ring at h = different_turn (take at ring) (drop at ring) (subst AreDifferent (sym (take-append-drop at ring)) h.simple)

round_differs : (ring : List Point) (at i j : ℕ) (d : Point) → IsRing ring → at < length ring → i < j → j ≤ length ring → (0 < i) ⊎ (j < length ring) → get_or (round_from ring at) i d ≢ get_or (round_from ring at) j d
round_differs ring at i j d h l m n c =
    let k : length (turn_from ring at) ≡ length ring = length-turn ring at l in
    let c2 : (0 < i) ⊎ (j < length (turn_from ring at)) = (elim c [
      | inl a ↦ inl a
      | inr a ↦ inr (omega arith)
    ]) in
    subst (λ (path : List Point). get_or path i d ≢ get_or path j d) (sym (round_is ring at d l))
    (closed_differ (turn_from ring at) (get_or ring at d) i j d (turn_differs ring at h) (turn_first ring at d l) m (omega arith) c2)

pub round_stepping : (ring : List Point) (at : ℕ) → IsRing ring → at < length ring → IsStepping (round_from ring at)
round_stepping ring at h l i d m =
    let n : length (round_from ring at) ≡ length ring + 1 = length-round ring at l in
    let long : 3 ≤ length ring = h.long in
    round_differs ring at i (i + 1) d h l (omega arith) (omega arith) (elim (below_or_not 0 i) [
      | inl a ↦ inl a
      | inr a ↦ inr (omega arith)
    ])

pub round_onward : (ring : List Point) (at i : ℕ) (d : Point) → IsRing ring → at < length ring → i + 2 < length (round_from ring at) → get_or (round_from ring at) i d ≢ get_or (round_from ring at) (i + 2) d
round_onward ring at i d h l m =
    let n : length (round_from ring at) ≡ length ring + 1 = length-round ring at l in
    let long : 3 ≤ length ring = h.long in
    round_differs ring at i (i + 2) d h l (omega arith) (omega arith) (elim (below_or_not 0 i) [
      | inl a ↦ inl a
      | inr a ↦ inr (omega arith)
    ])

round_step : (ring : List Point) (at : ℕ) (s : Point × Point) → at < length ring → Contains (steps_of_arc (round_from ring at)) s → Contains (steps_of_ring ring) s
round_step ring at s l c =
    let p : Point = get_or ring at s.0 in
    let same : steps_of_ring (turn_from ring at) ≡ steps_of_arc (round_from ring at) =
    round_steps (turn_from ring at) p (drop (at + 1) ring ++ take at ring ++ p ∷ []) (ap (λ (t : List Point). t ++ p ∷ []) (turn_starts ring at s.0 l))
    ∙ ap steps_of_arc (sym (round_is ring at s.0 l)) in
    let turned : Contains (steps_of_ring (drop at ring ++ take at ring)) s = subst (λ (steps : List (Point × Point)). Contains steps s) (sym same) c in
    subst (λ (r : List Point). Contains (steps_of_ring r) s) (take-append-drop at ring) (step_of_turn (drop at ring) (take at ring) s turned)

-- there is a way along each step of the round
pub round_along : (ways : List (Point × Point)) (ring : List Point) (at i : ℕ) (d : Point) → IsCovered ways ring → IsRing ring → at < length ring → i + 1 < length (round_from ring at) → HasWay ways (get_or (round_from ring at) i d) (get_or (round_from ring at) (i + 1) d)
round_along ways ring at i d v h l m =
    v (get_or (round_from ring at) i d) (get_or (round_from ring at) (i + 1) d)
    (round_step ring at (in_order (get_or (round_from ring at) i d) (get_or (round_from ring at) (i + 1) d)) l (contains_step (round_from ring at) i d (round_stepping ring at h l) m))

-- the round begins and ends at the point from which it goes
pub round_first : (ring : List Point) (at : ℕ) (d : Point) → at < length ring → get_or (round_from ring at) 0 d ≡ get_or ring at d
round_first ring at d l =
    ap (λ (path : List Point). get_or path 0 d) (round_is ring at d l)
    ∙ get_or_append_left (turn_from ring at) (get_or ring at d ∷ []) d 0 (omega (arith, length-turn ring at l))
    ∙ turn_first ring at d l

pub round_last : (ring : List Point) (at : ℕ) (d : Point) → at < length ring → get_or (round_from ring at) (length (round_from ring at) - 1) d ≡ get_or ring at d
round_last ring at d l =
    ap (λ (path : List Point). get_or path (length (round_from ring at) - 1) d) (round_is ring at d l)
    ∙ get_or_push (turn_from ring at) (get_or ring at d) d (length (round_from ring at) - 1) (omega (arith, length-turn ring at l, length-round ring at l))

-- without its last point it is a turn of the ring
pub round_turn : (ring : List Point) (at : ℕ) (d : Point) → at < length ring → IsTurnOf ring (without_last (round_from ring at))
round_turn ring at d l =
    let whole : IsTurnOf ring (turn_from ring at) = subst (λ (r : List Point). IsTurnOf r (turn_from ring at)) (take-append-drop at ring) (turn_itself (take at ring) (drop at ring)) in
    let n : length (turn_from ring at) ≡ length (round_from ring at) - 1 = omega (arith, length-turn ring at l, length-round ring at l) in
    let is : without_last (round_from ring at) ≡ turn_from ring at =
    ap (λ (path : List Point). take (length (round_from ring at) - 1) path) (round_is ring at d l)
    ∙ take_at (turn_from ring at) (get_or ring at d ∷ []) (length (round_from ring at) - 1) n in
    subst (IsTurnOf ring) (sym is) whole
