-- Sorted ways: how many leave a point, and how many leave lesser ones.
use Rattle.std.proofs.Common.{◌≡◌, inl, inr, ℕ, zero, suc, ◌+◌, ◌<◌, ◌≤◌, refl, sym, ◌∙◌, ap, subst, arith, Bool, true, false, not, List, [], ◌∷◌, length, get_or, take, drop, All, count_by, IsSorted, is_lt}
use Rattle.std.proofs.Common.{Ordering, Less, Equal, Greater}
use Rattle.std.specs.List.Sorted.{IsPartitionedBy, IsPartitionPoint, IsStrictlySortedBy}
use Rattle.std.specs.Ordering.{ordering_then, ordering_reverse}
use Rattle.std.proofs.lemmas.List.Elements.{All-from_recursion}
use Rattle.std.specs.Cmp.{IsTotalOrder}
use Rattle.std.proofs.lemmas.Cmp.{on_total, then_total}
use Rattle.std.proofs.lemmas.List.{get_or-take, get_or-drop, length-take-le, length-drop}
use Rattle.std.proofs.lemmas.List.Sorted.{sorted_far, ranks_by}
use Rattle.std.proofs.lemmas.List.Sums.{sum_by-take-drop}
use Rattle.plane_edge.specs.declared.point.Point.{Point}
use Rattle.plane_edge.specs.Edges.{is_same_point}
use Rattle.plane_edge.specs.Order.{is_below}
use Rattle.plane_edge.proofs.EvenLists.{bit, bit_yes, bit_no, count-cons}
use Rattle.plane_edge.proofs.OddLemmas.{count-none}
use Rattle.plane_edge.proofs.OrderLemmas.{point_order_total, below_is_less, point_irreflexive}
use Rattle.ring_arcs.specs.Ways.{point_order, way_order}
use Rattle.ring_arcs.proofs.Points.{either, true_not_false, point_case, is_same, not_same, below-trans}
use Rattle.ring_arcs.proofs.Points.PointCase.{below, same, above}

-- ---- a place that parts a list
count-all : {X : Type 0} (p : X → Bool) (xs : List X) → All (λ x. p x ≡ true) xs → count_by p xs ≡ length xs
count-all p [] h = refl
count-all p (x ∷ xs) h =
    let k = bit_yes (p x) (h 0 x (omega arith)) in
    omega (arith, count-cons p x xs, count-all p xs (λ k d l. h (suc k) d (omega arith)))

pub parted_count : {X : Type 0} (p : X → Bool) (xs : List X) (i : ℕ) → i ≤ length xs → IsPartitionPoint (λ y. p y ≡ true) (λ y. p y ≡ false) xs i → i ≡ count_by p xs
parted_count p xs i l h =
    let n : length (take i xs) ≡ i = length-take-le i xs l in
    let front = count-all p (take i xs) (λ k d m. ap p (get_or-take i xs k d (omega arith)) ∙ h.0 k d (omega arith) (omega arith)) in
    let rest = count-none p (drop i xs) (λ k d m. ap p (get_or-drop i xs k d) ∙ h.1 (i + k) d (omega arith) (omega (arith, length-drop i xs))) in
    omega (arith, sum_by-take-drop (λ x. bit (p x)) xs i)

-- ---- sorted ways
pub way_order_total : IsTotalOrder way_order
way_order_total = then_total (on_total (λ w. w.0) point_order_total) (on_total (λ w. w.1) point_order_total)

less_first : (o r : Ordering) → is_lt o ≡ true → is_lt (ordering_then o r) ≡ true
less_first Less r h = refl
less_first Equal r h = true_not_false false h refl
less_first Greater r h = true_not_false false h refl

-- a later way leaves no lesser point
rising_starts : (ways : List (Point × Point)) → IsSorted way_order ways → (i j : ℕ) (d : Point × Point) → i ≤ j → j < length ways → is_below (get_or ways j d).0 (get_or ways i d).0 ≡ false
rising_starts ways s i j d h l = elim (either (is_below (get_or ways j d).0 (get_or ways i d).0)) [
  | inl b ↦
      let far = sorted_far (λ v w. is_lt (way_order v w)) (ranks_by way_order_total (λ w. w)) ways s i j d h l in
      let less = less_first (point_order (get_or ways j d).0 (get_or ways i d).0) (point_order (get_or ways j d).1 (get_or ways i d).1) (sym (below_is_less (get_or ways j d).0 (get_or ways i d).0) ∙ b) in
      true_not_false (is_lt (way_order (get_or ways j d) (get_or ways i d))) less far
  | inr b ↦ b
]

below_after : (p q r : Point) → is_below q p ≡ false → is_below q r ≡ true → is_below p r ≡ true
below_after p q r h k = elim (point_case p q) [
  | below a b ↦ below-trans p q r a k
  | same e ↦ subst (λ (z : Point). is_below z r ≡ true) (sym e) k
  | above a b ↦ true_not_false (is_below q p) a h
]

below_before : (p q r : Point) → is_below r q ≡ false → is_below p q ≡ true → is_below p r ≡ true
below_before p q r h k = elim (point_case q r) [
  | below a b ↦ below-trans p q r k a
  | same e ↦ subst (λ (z : Point). is_below p z ≡ true) e k
  | above a b ↦ true_not_false (is_below r q) a h
]

pub parted_before : (ways : List (Point × Point)) (p : Point) → IsSorted way_order ways → IsPartitionedBy (λ w. is_below w.0 p) ways
parted_before ways p s = λ i j d h l b. below_after (get_or ways i d).0 (get_or ways j d).0 p (rising_starts ways s i j d h l) b

pub parted_up_to : (ways : List (Point × Point)) (p : Point) → IsSorted way_order ways → IsPartitionedBy (λ w. not (is_below p w.0)) ways
parted_up_to ways p s = λ i j d h l b. (elim (either (is_below p (get_or ways i d).0)) [
  | inl a ↦ true_not_false (not (is_below p (get_or ways j d).0)) b (ap not (below_before p (get_or ways i d).0 (get_or ways j d).0 (rising_starts ways s i j d h l) a))
  | inr a ↦ ap not a
])

three_ways : (q p : Point) → bit (not (is_below p q)) ≡ bit (is_below q p) + bit (is_same_point q p)
three_ways q p = elim (point_case q p) [
  | below a b ↦
      let x = bit_yes (not (is_below p q)) (ap not b) in
      let y = bit_yes (is_below q p) a in
      let z = bit_no (is_same_point q p) (not_same q p (λ e. true_not_false (is_below q p) a (subst (λ (r : Point). is_below q r ≡ false) e (point_irreflexive q)))) in
      omega arith
  | same e ↦
      let x = bit_yes (not (is_below p q)) (ap not (subst (λ (r : Point). is_below r q ≡ false) e (point_irreflexive q))) in
      let y = bit_no (is_below q p) (subst (λ (r : Point). is_below q r ≡ false) e (point_irreflexive q)) in
      let z = bit_yes (is_same_point q p) (is_same q p e) in
      omega arith
  | above a b ↦
      let x = bit_no (not (is_below p q)) (ap not a) in
      let y = bit_no (is_below q p) b in
      let z = bit_no (is_same_point q p) (not_same q p (λ e. true_not_false (is_below p q) a (subst (λ (r : Point). is_below r q ≡ false) e (point_irreflexive q)))) in
      omega arith
]

-- the ways that leave a point are those that leave it or lesser ones, less those that leave lesser ones
pub leaving : (p : Point) (ways : List (Point × Point)) → count_by (λ w. not (is_below p w.0)) ways ≡ count_by (λ w. is_below w.0 p) ways + count_by (λ w. is_same_point w.0 p) ways
leaving p [] = refl
leaving p (w ∷ ws) =
    omega (arith, count-cons (λ e. not (is_below p e.0)) w ws, count-cons (λ e. is_below e.0 p) w ws, count-cons (λ e. is_same_point e.0 p) w ws, leaving p ws, three_ways w.0 p)

-- ---- strictly sorted ways are sorted
less_not_back : {X : Type 0} (R : X → X → Ordering) → IsTotalOrder R → (x y : X) → R x y ≡ Less → is_lt (R y x) ≡ false
less_not_back R o x y h = ap is_lt (o.antisymm y x ∙ ap ordering_reverse h)

pub sorted_from_strictly : {X : Type 0} (R : X → X → Ordering) → IsTotalOrder R → (xs : List X) → IsStrictlySortedBy R xs → IsSorted R xs
unfolding IsStrictlySortedBy
sorted_from_strictly R o [] s = λ k d l m. absurd (omega arith)
sorted_from_strictly {X} R o (x ∷ xs) s = go (All-from_recursion (λ y. R x y ≡ Less) xs s.0) (sorted_from_strictly R o xs s.1)
  where
    go : All (λ y. R x y ≡ Less) xs → IsSorted R xs → IsSorted R (x ∷ xs)
    go a p zero d l m = less_not_back R o x (get_or xs 0 d) (a 0 d (omega arith))
    go a p (suc k) d l m =
        let e : suc k + 1 ≡ suc (k + 1) = omega arith in
        ap (λ n. is_lt (R (get_or (x ∷ xs) n d) (get_or xs k d))) e ∙ p k d (omega arith) (omega arith)
