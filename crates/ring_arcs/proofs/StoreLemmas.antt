-- Arcs that are stored: each step stands in just one of them, and once.
use Rattle.std.proofs.Common.{◌≡◌, ◌≢◌, ◌⊎◌, inl, inr, ℕ, zero, suc, ◌+◌, ◌≤◌, sym, ◌∙◌, subst, arith, List, [], ◌∷◌, length, get_or, All, AllPairs, Contains}
use Rattle.std.proofs.Common.{Ordering, Less, Equal}
use Rattle.std.specs.Cmp.{IsTotalOrder}
use Rattle.std.specs.Cmp.Lexicographic.{slice_cmp}
use Rattle.std.specs.List.Sorted.{IsStrictlySortedBy}
use Rattle.std.proofs.lemmas.Cmp.{lists_total, tied_itself}
use Rattle.std.proofs.lemmas.List.Elements.{All-from_recursion, All-tail}
use Rattle.plane_edge.specs.declared.point.Point.{Point}
use Rattle.plane_edge.specs.Rings.{in_order, steps_of_ring, is_same_step, times}
use Rattle.plane_edge.proofs.EvenLists.{count-append}
use Rattle.plane_edge.proofs.OrderLemmas.{point_order_total}
use Rattle.ring_arcs.specs.Breaks.{is_break}
use Rattle.ring_arcs.specs.Chains.{HasWay, IsArc, AreStored}
use Rattle.ring_arcs.specs.RingArcs.{steps_of_arc, steps_of_arcs, AreArcsOf}
use Rattle.ring_arcs.specs.Rings.{steps_of_rings}
use Rattle.ring_arcs.specs.Ways.{point_order, AreWaysOf}
use Rattle.ring_arcs.proofs.ChainLemmas.{AreWays, arcs_equal}
use Rattle.ring_arcs.proofs.Counts.{IsAlone, count-alone, place_of_count, contains_piece, piece_that_contains}
use Rattle.ring_arcs.proofs.Points.{same_steps_equal}
use Rattle.ring_arcs.proofs.Steps.{IsStepping, length-steps, step_at, place_of_step, ends_in_ring}
use Rattle.ring_arcs.proofs.WayLemmas.{symmetric_ways, are_ways, stands}

pub arc_order_total : IsTotalOrder (slice_cmp point_order)
arc_order_total = lists_total point_order_total

-- ---- a strictly sorted list has no element twice
strictly_apart : {X : Type 0} (R : X → X → Ordering) → IsTotalOrder R → (x y : X) → R x y ≡ Less → x ≢ y
strictly_apart {X} R o x y h = λ e. less_or_equal (R x x) (subst (λ (z : X). R x z ≡ Less) (sym e) h) (tied_itself o x)
  where
    less_or_equal : (r : Ordering) → r ≡ Less → r ≡ Equal → ⊥
    less_or_equal r h k = cc

pub strictly_differ : {X : Type 0} (R : X → X → Ordering) → IsTotalOrder R → (xs : List X) → IsStrictlySortedBy R xs → AllPairs (λ x y. x ≢ y) xs
unfolding IsStrictlySortedBy
strictly_differ R o [] s = λ i j d l m. absurd (omega arith)
strictly_differ {X} R o (x ∷ xs) s = go (All-from_recursion (λ y. R x y ≡ Less) xs s.0) (strictly_differ R o xs s.1)
  where
    go : All (λ y. R x y ≡ Less) xs → AllPairs (λ x y. x ≢ y) xs → AllPairs (λ x y. x ≢ y) (x ∷ xs)
    go a p zero zero d l m = absurd (omega arith)
    go a p zero (suc j) d l m = strictly_apart R o x (get_or xs j d) (a j d (omega arith))
    go a p (suc i) zero d l m = absurd (omega arith)
    go a p (suc i) (suc j) d l m = p i j d (omega arith) (omega arith)

-- ---- one arc
arc_stepping : (ways : List (Point × Point)) (loops arc : List Point) → IsArc ways loops arc → IsStepping arc
arc_stepping ways loops arc h = h.chain.stepping

steps_alone : (ways : List (Point × Point)) (loops arc : List Point) → AreWays (HasWay ways) (is_break ways loops) → IsArc ways loops arc → (s : Point × Point) → IsAlone (λ e. is_same_step s e) (steps_of_arc arc)
steps_alone ways loops arc ws h s = λ i j e l m x y. (
    let n : length (steps_of_arc arc) + 1 ≡ length arc = length-steps arc (omega (arith, h.chain.long)) (arc_stepping ways loops arc h) in
    let a : s ≡ get_or (steps_of_arc arc) i e = same_steps_equal s (get_or (steps_of_arc arc) i e) x in
    let b : s ≡ get_or (steps_of_arc arc) j e = same_steps_equal s (get_or (steps_of_arc arc) j e) y in
    let p = step_at arc i s.0 e (arc_stepping ways loops arc h) (omega arith) in
    let q = step_at arc j s.0 e (arc_stepping ways loops arc h) (omega arith) in
    let r : i ≡ j = (arcs_equal ws arc arc i j s.0 h.chain h.chain (h.forward s.0) (h.forward s.0) (omega arith) (omega arith) (sym p ∙ sym a ∙ b ∙ q)).0 in
    omega arith)

once_in_arc : (ways : List (Point × Point)) (loops arc : List Point) → AreWays (HasWay ways) (is_break ways loops) → IsArc ways loops arc → (s : Point × Point) → times s (steps_of_arc arc) ≤ 1
once_in_arc ways loops arc ws h s = count-alone (λ e. is_same_step s e) (steps_of_arc arc) (steps_alone ways loops arc ws h s)

-- two arcs with a step in common are one arc
pub arcs_same : (ways : List (Point × Point)) (loops a b : List Point) → AreWays (HasWay ways) (is_break ways loops) → IsArc ways loops a → IsArc ways loops b → (s : Point × Point) → Contains (steps_of_arc a) s → Contains (steps_of_arc b) s → a ≡ b
arcs_same ways loops a b ws h k s c e =
    let p = place_of_step a s (arc_stepping ways loops a h) c in
    let q = place_of_step b s (arc_stepping ways loops b k) e in
    (arcs_equal ws a b p.0 q.0 s.0 h.chain k.chain (h.forward s.0) (k.forward s.0) p.1.0 q.1.0 (sym (p.1.1 s.0) ∙ q.1.1 s.0)).1

-- ---- all arcs
pub stands_there : (s : Point × Point) (steps : List (Point × Point)) → 1 ≤ times s steps → Contains steps s
stands_there s steps h =
    let r = place_of_count (λ e. is_same_step s e) steps h in
    (r.0, r.1.0, sym (same_steps_equal s (get_or steps r.0 s) (r.1.1 s)))

tail_differ : (a : List Point) (arcs : List (List Point)) → AllPairs (λ x y. x ≢ y) (a ∷ arcs) → AllPairs (λ x y. x ≢ y) arcs
tail_differ a arcs h = λ i j d l m. h (suc i) (suc j) d (omega arith) (omega arith)

none_or_some : (n : ℕ) → (n ≡ 0) ⊎ (1 ≤ n)
none_or_some n = grind arith

at_most_once : (ways : List (Point × Point)) (loops : List Point) (arcs : List (List Point)) → AreWays (HasWay ways) (is_break ways loops) → AllPairs (λ a b. a ≢ b) arcs → All (IsArc ways loops) arcs → (s : Point × Point) → times s (steps_of_arcs arcs) ≤ 1
at_most_once ways loops [] ws p h s = omega arith
at_most_once ways loops (a ∷ arcs) ws p h s =
    let here : IsArc ways loops a = h 0 a (omega arith) in
    let rest : All (IsArc ways loops) arcs = All-tail (IsArc ways loops) a arcs h in
    let sum = count-append (λ e. is_same_step s e) (steps_of_arc a) (steps_of_arcs arcs) in
    elim (none_or_some (times s (steps_of_arc a))) [
      | inl z ↦ omega (arith, sum, at_most_once ways loops arcs ws (tail_differ a arcs p) rest s)
      | inr z ↦ (elim (none_or_some (times s (steps_of_arcs arcs))) [
        | inl y ↦ omega (arith, sum, once_in_arc ways loops a ws here s)
        | inr y ↦
            let w = piece_that_contains steps_of_arc arcs s (stands_there s (steps_of_arcs arcs) y) in
            let other : IsArc ways loops w.1 = subst (IsArc ways loops) w.3 (rest w.0 w.1 w.2) in
            let same : a ≡ w.1 = arcs_same ways loops a w.1 ws here other s (stands_there s (steps_of_arc a) z) w.4 in
            absurd (p 0 (suc w.0) w.1 (omega arith) (omega (arith, w.2)) (same ∙ sym w.3))
      ])
    ]

along_arc : (ways : List (Point × Point)) (loops arc : List Point) → IsArc ways loops arc → (s : Point × Point) → Contains (steps_of_arc arc) s → (p : Point) × ((q : Point) × (HasWay ways p q × (s ≡ in_order p q)))
along_arc ways loops arc h s c =
    let r = place_of_step arc s (arc_stepping ways loops arc h) c in
    (get_or arc r.0 s.0, (get_or arc (r.0 + 1) s.0, (h.chain.along r.0 s.0 r.1.0, r.1.1 s.0)))

pub arcs_of_stored : (rings arcs : List (List Point)) (ways : List (Point × Point)) (loops : List Point) → AreWaysOf (steps_of_rings rings) ways → AreStored ways loops arcs → AreArcsOf rings arcs
arcs_of_stored rings arcs ways loops w h = record {
  long = λ k d l. (h.each k d l).chain.long;
  stepping = λ k d l. (let a = h.each k d l in length-steps (get_or arcs k d) (omega (arith, a.chain.long)) (arc_stepping ways loops (get_or arcs k d) a));
  once = λ s c. (
      let r = piece_that_contains steps_of_ring rings s c in
      let e = ends_in_ring r.1 s r.4 in
      let way : HasWay ways e.0 e.1.0 = (w e.0 e.1.0).1 (subst (λ (t : Point × Point). Contains (steps_of_rings rings) t) e.1.1 c) in
      let there : Contains (steps_of_arcs arcs) (in_order e.0 e.1.0) = contains_piece steps_of_arc arcs (in_order e.0 e.1.0) (h.whole e.0 e.1.0 way) in
      let some = stands s (steps_of_arcs arcs) (subst (λ (t : Point × Point). Contains (steps_of_arcs arcs) t) (sym e.1.1) there) in
      let most = at_most_once ways loops arcs (are_ways ways loops (symmetric_ways (steps_of_rings rings) ways w)) (strictly_differ (slice_cmp point_order) arc_order_total arcs h.rising) h.each s in
      omega (arith, some, most));
  never = λ s n. (elim (none_or_some (times s (steps_of_arcs arcs))) [
    | inl z ↦ z
    | inr z ↦
        let r = piece_that_contains steps_of_arc arcs s (stands_there s (steps_of_arcs arcs) z) in
        let arc : IsArc ways loops r.1 = subst (IsArc ways loops) r.3 (h.each r.0 r.1 r.2) in
        let a = along_arc ways loops r.1 arc s r.4 in
        let step : Contains (steps_of_rings rings) (in_order a.0 a.1.0) = (w a.0 a.1.0).0 a.1.1.0 in
        absurd (n (subst (λ (t : Point × Point). Contains (steps_of_rings rings) t) (sym a.1.1.1) step))
  ]);
  in_order = record { rising = h.rising; forward = λ k d l e. (h.each k d l).forward e };
}
