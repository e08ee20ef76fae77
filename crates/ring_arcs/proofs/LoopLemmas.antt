-- The least points of rings without nodes.
use Rattle.std.proofs.Common.{◌≡◌, ◌⊎◌, inl, inr, ℕ, ◌+◌, ◌<◌, ◌≤◌, refl, sym, ◌∙◌, ap, subst, arith, Bool, true, false, ◌||◌, if◌then◌else◌, List, [], ◌∷◌, ◌++◌, length, get_or, take, All, Any, Contains, Result, Ok, Err, is_ok, IsTrue, IsSorted, IsPermutation, Vec, Global}
use Rattle.std.specs.List.{list_any}
use Rattle.std.specs.List.Sorted.{IsSearchInRange, IsBinarySearchResult}
use Rattle.std.specs.Ordering.{is_eq}
use Rattle.std.proofs.lemmas.List.Elements.{All-more, All-weaker}
use Rattle.std.proofs.lemmas.List.Folds.{list_any_at, list_any_none, list_any-append}
use Rattle.std.proofs.lemmas.List.Sorted.{searchable_from_sorted, list_any-IsPermutation}
use Rattle.plane_edge.specs.declared.point.Point.{Point}
use Rattle.plane_edge.specs.Edges.{is_same_point}
use Rattle.plane_edge.specs.Order.{is_below}
use Rattle.plane_edge.proofs.OrderLemmas.{point_order_total, same_is_equal, same_point_itself, point_irreflexive}
use Rattle.ring_arcs.specs.Breaks.{is_node, lesser, IsBroken}
use Rattle.ring_arcs.specs.Ways.{point_order}
use Rattle.ring_arcs.proofs.Points.{either, true_not_false, below-trans}

-- ---- the lesser of two points
lesser_is : (p q : Point) → ((is_below q p ≡ true) × (lesser p q ≡ q)) ⊎ ((is_below q p ≡ false) × (lesser p q ≡ p))
lesser_is p q = elim (either (is_below q p)) [
  | inl h ↦ inl (h, ap (λ (b : Bool). if b then q else p) h)
  | inr h ↦ inr (h, ap (λ (b : Bool). if b then q else p) h)
]

above_lesser : (p q r : Point) → is_below r p ≡ false → is_below r (lesser p q) ≡ false
above_lesser p q r h = elim (lesser_is p q) [
  | inl c ↦ elim (either (is_below r q)) [
    | inl k ↦ true_not_false (is_below r p) (below-trans r q p k c.0) h
    | inr k ↦ ap (λ (z : Point). is_below r z) c.1 ∙ k
  ]
  | inr c ↦ ap (λ (z : Point). is_below r z) c.1 ∙ h
]

second_above_lesser : (p q : Point) → is_below q (lesser p q) ≡ false
second_above_lesser p q = elim (lesser_is p q) [
  | inl c ↦ ap (λ (z : Point). is_below q z) c.1 ∙ point_irreflexive q
  | inr c ↦ ap (λ (z : Point). is_below q z) c.1 ∙ c.0
]

pub least_more : (ring : List Point) (i : ℕ) (p q : Point) → i < length ring → q ≡ get_or ring i q → All (λ r. is_below r p ≡ false) (take i ring) → All (λ r. is_below r (lesser p q) ≡ false) (take (i + 1) ring)
least_more ring i p q l e h =
    All-more (λ r. is_below r (lesser p q) ≡ false) ring i q l (All-weaker (λ r. is_below r p ≡ false) (λ r. is_below r (lesser p q) ≡ false) (λ r k. above_lesser p q r k) (take i ring) h)
    (subst (λ (r : Point). is_below r (lesser p q) ≡ false) e (second_above_lesser p q))

pub lesser_inside : (ring : List Point) (i : ℕ) (p q : Point) → i < length ring → q ≡ get_or ring i q → Contains ring p → Contains ring (lesser p q)
lesser_inside ring i p q l e c = elim (lesser_is p q) [
  | inl k ↦ subst (Contains ring) (sym k.1) (i, l, sym e)
  | inr k ↦ subst (Contains ring) (sym k.1) c
]

pub none_more : (ways : List (Point × Point)) (ring : List Point) (i : ℕ) (q : Point) → i < length ring → q ≡ get_or ring i q → is_node ways q ≡ false → All (λ r. is_node ways r ≡ false) (take i ring) → All (λ r. is_node ways r ≡ false) (take (i + 1) ring)
none_more ways ring i q l e n h = All-more (λ r. is_node ways r ≡ false) ring i q l h (subst (λ (r : Point). is_node ways r ≡ false) e n)

-- ---- a binary search for a point
pub found_is : (loops : List Point) (x : Point) (r : Result ℕ ℕ) → IsSorted point_order loops → IsSearchInRange r (length loops) → IsBinarySearchResult (λ y. point_order y x) loops r → is_ok r ≡ list_any (λ q. is_same_point q x) loops
found_is loops x (Ok i) s b h = sym (list_any_at (λ q. is_same_point q x) loops i x b (same_is_equal (get_or loops i x) x ∙ ap is_eq (h x)))
found_is loops x (Err i) s b h =
    let parted = h (searchable_from_sorted point_order_total (λ (y : Point). y) loops x s) in
    sym (list_any_none (λ q. is_same_point q x) loops (λ k d l. same_is_equal (get_or loops k d) x ∙ (elim (cases k) [
      | inl a ↦ ap is_eq (parted.0 k d (omega arith) a)
      | inr a ↦ ap is_eq (parted.1 k d a l)
    ])))
  where
    cases : (k : ℕ) → (k < i) ⊎ (i ≤ k)
    cases k = grind arith

-- ---- broken rings
or_left : (a b : Bool) → a ≡ true → (a || b) ≡ true
or_left a b h = ap (λ x. x || b) h

or_right : (a b : Bool) → b ≡ true → (a || b) ≡ true
or_right true b h = refl
or_right false b h = h

or_second : (a b c : Bool) → (b ≡ true → c ≡ true) → (a || b) ≡ true → (a || c) ≡ true
or_second true b c h k = refl
or_second false b c h k = h k

-- more loops break no fewer rings
broken_by : (ways : List (Point × Point)) (one two ring : List Point) → ((p : Point) → list_any (λ q. is_same_point q p) one ≡ true → list_any (λ q. is_same_point q p) two ≡ true) → IsBroken ways one ring → IsBroken ways two ring
broken_by ways one two ring h b = (b.0, b.1, b.2, b.3, or_second (is_node ways b.1) (list_any (λ q. is_same_point q b.1) one) (list_any (λ q. is_same_point q b.1) two) (h b.1) b.4)

pub broken_pushed : (ways : List (Point × Point)) (loops ring : List Point) (p : Point) → IsBroken ways loops ring → IsBroken ways (loops ++ p ∷ []) ring
broken_pushed ways loops ring p b = broken_by ways loops (loops ++ p ∷ []) ring (λ r h. list_any-append (λ q. is_same_point q r) loops (p ∷ []) ∙ or_left (list_any (λ q. is_same_point q r) loops) (list_any (λ q. is_same_point q r) (p ∷ [])) h) b

pub broken_moved : (ways : List (Point × Point)) (one two ring : List Point) → IsPermutation one two → IsBroken ways one ring → IsBroken ways two ring
broken_moved ways one two ring m b = broken_by ways one two ring (λ r h. sym (list_any-IsPermutation (λ q. is_same_point q r) one two m) ∙ h) b

pub broken_by_node : (ways : List (Point × Point)) (loops ring : List Point) → Any (λ p. IsTrue (is_node ways p)) ring → IsBroken ways loops ring
broken_by_node ways loops ring b = (b.0, b.1, b.2, b.3, or_left (is_node ways b.1) (list_any (λ q. is_same_point q b.1) loops) b.4)

pub broken_by_loop : (ways : List (Point × Point)) (loops ring : List Point) (p : Point) → Contains ring p → IsBroken ways (loops ++ p ∷ []) ring
broken_by_loop ways loops ring p c =
    let last : list_any (λ q. is_same_point q p) (p ∷ []) ≡ true = or_left (is_same_point p p) false (same_point_itself p) in
    (c.0, p, c.1, c.2, or_right (is_node ways p) (list_any (λ q. is_same_point q p) (loops ++ p ∷ [])) (list_any-append (λ q. is_same_point q p) loops (p ∷ []) ∙ or_right (list_any (λ q. is_same_point q p) loops) (list_any (λ q. is_same_point q p) (p ∷ [])) last))

-- one more ring is broken, and the others are still
pub broken_more : (ways : List (Point × Point)) (one two : List Point) (rings : List (Vec Point Global)) (i : ℕ) (ring : Vec Point Global) → i < length rings → ring ≡ get_or rings i ring → ((r : List Point) → IsBroken ways one r → IsBroken ways two r) → IsBroken ways two ring.items → All (λ r. IsBroken ways one r.items) (take i rings) → All (λ r. IsBroken ways two r.items) (take (i + 1) rings)
broken_more ways one two rings i ring l e more b h =
    All-more (λ r. IsBroken ways two r.items) rings i ring l (All-weaker (λ r. IsBroken ways one r.items) (λ r. IsBroken ways two r.items) (λ r k. more r.items k) (take i rings) h)
    (subst (λ (r : Vec Point Global). IsBroken ways two r.items) e b)

pub all_broken_moved : (ways : List (Point × Point)) (one two : List Point) (rings : List (Vec Point Global)) → IsPermutation one two → All (λ r. IsBroken ways one r.items) rings → All (λ r. IsBroken ways two r.items) rings
all_broken_moved ways one two rings m h = All-weaker (λ r. IsBroken ways one r.items) (λ r. IsBroken ways two r.items) (λ r k. broken_moved ways one two r.items m k) rings h
