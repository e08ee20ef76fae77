-- Chains as they are stored.
use Rattle.std.proofs.Common.{◌≡◌, ◌⊎◌, inl, inr, ℕ, ◌+◌, ◌-◌, ◌<◌, ◌≤◌, refl, sym, ◌∙◌, ap, subst, arith, Bool, true, false, if◌then◌else◌, List, [], ◌∷◌, length, reverse, get_or, Contains}
use Rattle.std.proofs.lemmas.List.{get_or_default, length-reverse}
use Rattle.plane_edge.specs.declared.point.Point.{Point}
use Rattle.plane_edge.specs.Edges.{is_same_point}
use Rattle.plane_edge.specs.Order.{is_below}
use Rattle.plane_edge.specs.Rings.{in_order}
use Rattle.plane_edge.proofs.OrderLemmas.{point_irreflexive}
use Rattle.ring_arcs.specs.Breaks.{is_break}
use Rattle.ring_arcs.specs.Chains.{HasWay, IsChain, IsArc}
use Rattle.ring_arcs.specs.RingArcs.{steps_of_arc}
use Rattle.ring_arcs.specs.Turning.{is_backward, arc_of}
use Rattle.ring_arcs.proofs.ChainLemmas.{AreWays, IsChain-reverse, reversed_at, backward_closed, backward_open}
use Rattle.ring_arcs.proofs.Points.{either, true_not_false, point_case, same_or_not, in_order-comm}
use Rattle.ring_arcs.proofs.Points.PointCase.{below, same, above}
use Rattle.ring_arcs.proofs.Steps.{place_of_step, contains_step}

pub arc_of-backward : (chain : List Point) → ((d : Point) → true ≡ is_backward d chain) → arc_of chain ≡ reverse chain
arc_of-backward [] h = refl
arc_of-backward (p ∷ ps) h = ap (λ (b : Bool). if b then reverse (p ∷ ps) else p ∷ ps) (sym (h p))

pub arc_of-forward : (chain : List Point) → ((d : Point) → false ≡ is_backward d chain) → arc_of chain ≡ chain
arc_of-forward [] h = refl
arc_of-forward (p ∷ ps) h = ap (λ (b : Bool). if b then reverse (p ∷ ps) else p ∷ ps) (sym (h p))

-- ---- arcs
default_same : (c : List Point) (d e : Point) → 2 ≤ length c → is_backward d c ≡ is_backward e c
default_same c d e l =
    let first = get_or_default c 0 d e (omega arith) in
    let second = get_or_default c 1 d e (omega arith) in
    let third = get_or_default c (length c - 2) d e (omega arith) in
    let last = get_or_default c (length c - 1) d e (omega arith) in
    ap (λ (p : Point). if is_same_point p (get_or c (length c - 1) d) then is_below (get_or c (length c - 2) d) (get_or c 1 d) else is_below (get_or c (length c - 1) d) p) first
    ∙ ap (λ (p : Point). if is_same_point (get_or c 0 e) p then is_below (get_or c (length c - 2) d) (get_or c 1 d) else is_below p (get_or c 0 e)) last
    ∙ ap (λ (p : Point). if is_same_point (get_or c 0 e) (get_or c (length c - 1) e) then is_below p (get_or c 1 d) else is_below (get_or c (length c - 1) e) (get_or c 0 e)) third
    ∙ ap (λ (p : Point). if is_same_point (get_or c 0 e) (get_or c (length c - 1) e) then is_below (get_or c (length c - 2) e) p else is_below (get_or c (length c - 1) e) (get_or c 0 e)) second

-- a stored chain is the chain or the same backwards
pub arc_is : (c : List Point) (d : Point) → 2 ≤ length c → ((is_backward d c ≡ true) × (arc_of c ≡ reverse c)) ⊎ ((is_backward d c ≡ false) × (arc_of c ≡ c))
arc_is c d l = elim (either (is_backward d c)) [
  | inl b ↦ inl (b, arc_of-backward c (λ e. sym b ∙ default_same c d e l))
  | inr b ↦ inr (b, arc_of-forward c (λ e. sym b ∙ default_same c d e l))
]

below_one_way : (p q : Point) → is_below p q ≡ true → is_below q p ≡ false
below_one_way p q h = elim (point_case p q) [
  | below a b ↦ b
  | same e ↦ true_not_false (is_below p q) h (subst (λ (r : Point). is_below p r ≡ false) e (point_irreflexive p))
  | above a b ↦ true_not_false (is_below p q) h b
]

reversed_is_forward : (c : List Point) (d : Point) → 2 ≤ length c → is_backward d c ≡ true → is_backward d (reverse c) ≡ false
reversed_is_forward c d l h =
    let n : length (reverse c) ≡ length c = length-reverse c in
    let first : get_or (reverse c) 0 d ≡ get_or c (length c - 1) d = reversed_at c 0 (length c - 1) d (omega arith) in
    let last : get_or (reverse c) (length (reverse c) - 1) d ≡ get_or c 0 d = reversed_at c (length (reverse c) - 1) 0 d (omega arith) in
    let second : get_or (reverse c) 1 d ≡ get_or c (length c - 2) d = reversed_at c 1 (length c - 2) d (omega arith) in
    let third : get_or (reverse c) (length (reverse c) - 2) d ≡ get_or c 1 d = reversed_at c (length (reverse c) - 2) 1 d (omega arith) in
    elim (same_or_not (get_or c 0 d) (get_or c (length c - 1) d)) [
      | inl q ↦
          backward_closed d (reverse c) (first ∙ sym q ∙ sym last)
          ∙ ap (λ (p : Point). is_below p (get_or (reverse c) 1 d)) third ∙ ap (λ (p : Point). is_below (get_or c 1 d) p) second
          ∙ below_one_way (get_or c (length c - 2) d) (get_or c 1 d) (sym (backward_closed d c q) ∙ h)
      | inr q ↦
          backward_open d (reverse c) (λ e. q (sym last ∙ sym e ∙ first))
          ∙ ap (λ (p : Point). is_below p (get_or (reverse c) 0 d)) last ∙ ap (λ (p : Point). is_below (get_or c 0 d) p) first
          ∙ below_one_way (get_or c (length c - 1) d) (get_or c 0 d) (sym (backward_open d c q) ∙ h)
    ]

pub arc_of_chain : (ways : List (Point × Point)) (loops chain : List Point) → AreWays (HasWay ways) (is_break ways loops) → IsChain (HasWay ways) (is_break ways loops) chain → IsArc ways loops (arc_of chain)
arc_of_chain ways loops [] ws h = absurd (omega (arith, h.long))
arc_of_chain ways loops (p ∷ ps) ws h = elim (arc_is (p ∷ ps) p h.long) [
  | inl b ↦ subst (IsArc ways loops) (sym b.1) (record {
    chain = IsChain-reverse ws (p ∷ ps) h;
    forward = λ d. reversed_is_forward (p ∷ ps) d h.long (default_same (p ∷ ps) d p h.long ∙ b.0);
  })
  | inr b ↦ subst (IsArc ways loops) (sym b.1) (record {
    chain = h;
    forward = λ d. default_same (p ∷ ps) d p h.long ∙ b.0;
  })
]

-- backwards a chain has the same steps
step_of_reverse : {W : Point → Point → Type 0} {B : Point → Bool} → AreWays W B → (chain : List Point) (s : Point × Point) → IsChain W B chain → Contains (steps_of_arc chain) s → Contains (steps_of_arc (reverse chain)) s
step_of_reverse ws chain s h c =
    let r = place_of_step chain s h.stepping c in
    let d : Point = s.0 in
    let n : length (reverse chain) ≡ length chain = length-reverse chain in
    let j : ℕ = length chain - 2 - r.0 in
    let inside : r.0 + 1 < length chain = r.1.0 in
    let a : get_or (reverse chain) j d ≡ get_or chain (r.0 + 1) d = reversed_at chain j (r.0 + 1) d (omega arith) in
    let b : get_or (reverse chain) (j + 1) d ≡ get_or chain r.0 d = reversed_at chain (j + 1) r.0 d (omega arith) in
    let there = contains_step (reverse chain) j d (IsChain-reverse ws chain h).stepping (omega arith) in
    let is : in_order (get_or (reverse chain) j d) (get_or (reverse chain) (j + 1) d) ≡ s =
    ap (λ (p : Point). in_order p (get_or (reverse chain) (j + 1) d)) a ∙ ap (λ (p : Point). in_order (get_or chain (r.0 + 1) d) p) b
    ∙ in_order-comm (get_or chain (r.0 + 1) d) (get_or chain r.0 d) ∙ sym (r.1.1 d) in
    subst (λ (t : Point × Point). Contains (steps_of_arc (reverse chain)) t) is there

pub step_of_stored : {W : Point → Point → Type 0} {B : Point → Bool} → AreWays W B → (chain : List Point) (s : Point × Point) → IsChain W B chain → Contains (steps_of_arc chain) s → Contains (steps_of_arc (arc_of chain)) s
step_of_stored ws chain s h c = elim (arc_is chain s.0 h.long) [
  | inl b ↦ subst (λ (arc : List Point). Contains (steps_of_arc arc) s) (sym b.1) (step_of_reverse ws chain s h c)
  | inr b ↦ subst (λ (arc : List Point). Contains (steps_of_arc arc) s) (sym b.1) c
]
