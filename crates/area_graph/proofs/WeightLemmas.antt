-- Sums over the edges of an area.
use Rattle.std.proofs.Common.{◌≡◌, ℕ, ◌+◌, ◌*◌, ◌^◌, ◌<◌, ◌≤◌, refl, sym, ap, subst, arith, Bool, true, false, ◌&&◌, not, cond, List, [], ◌∷◌, ◌++◌, length, get_or, take, count_by, ℤ, pos, ◌+ℤ◌, ◌-ℤ◌, ◌*ℤ◌, unsigned_abs, ◌∙◌, ◌%◌, ◌⊎◌, inl, inr, eqb, FitsSigned, mul-le-mul, lit<}
use Rattle.std.specs.Prelude.{◌↔◌, IsTrue}
use Rattle.std.specs.Int.{w128}
use Rattle.std.proofs.lemmas.List.{take_more, length-take-le, get_or-map}
use Rattle.std.proofs.lemmas.List.Sums.{get_or-le-sum_by}
use Rattle.std.proofs.lemmas.Int.{fits_signed_mul}
use Rattle.agg_base.specs.declared.limits.TheConstants.{STEPS}
use Rattle.coverage_check.specs.Cover.{odd_of}
use Rattle.coverage_check.specs.Kept.{OddArea, odds_of, odd_edge_count}
use Rattle.whole_ring.proofs.Sizes.{abs-mul}
use Rattle.plane_edge.specs.Coordinate.{IsCoordinate}
use Rattle.whole_ring.proofs.Ring.{ring, var, con, ◌⊕◌, ◌⊖◌, ◌⊗◌}
use Rattle.whole_ring.proofs.Signs.{lin, within}
use Rattle.plane_edge.specs.declared.edge.Edge.{Edge}
use Rattle.plane_edge.specs.Edges.{is_same_edge}
use Rattle.plane_edge.specs.Middle.{middle_of}
use Rattle.plane_edge.specs.Plane.{is_crossed, side_of, rise, IsInside}
use Rattle.plane_edge.proofs.OrderLemmas.{same_edges_equal}
use Rattle.plane_edge.proofs.EvenLists.{count-cons}
use Rattle.edge_rows.specs.Beside.{AreCrossedAlike}
use Rattle.area_graph.specs.Weights.{sum_over, others_crossed, swept, signed_term, weight_of_edges}

pub sum_over-push : (f : Edge → ℤ) (es : List Edge) (e : Edge) → sum_over f (es ++ e ∷ []) ≡ sum_over f es +ℤ f e
sum_over-push f [] e = omega (arith, lin)
sum_over-push f (x ∷ es) e = omega (arith, lin, sum_over-push f es e)

pub sum_over-more : (f : Edge → ℤ) (es : List Edge) (i : ℕ) (d : Edge) → i < length es → sum_over f (take (i + 1) es) ≡ sum_over f (take i es) +ℤ f (get_or es i d)
sum_over-more f es i d h = ap (sum_over f) (take_more es i d h) ∙ sum_over-push f (take i es) (get_or es i d)

pub sum_over-size : (f : Edge → ℤ) (m : ℕ) (es : List Edge) → ((e : Edge) → unsigned_abs (f e) ≤ m) → unsigned_abs (sum_over f es) ≤ length es * m
sum_over-size f m [] h = omega arith
sum_over-size f m (e ∷ es) h =
    let one = h e in
    let rest = sum_over-size f m es h in
    let all = both (f e) (sum_over f es) m (length es * m) one rest in
    omega (arith, all)
  where
    both : (a b : ℤ) (m n : ℕ) → unsigned_abs a ≤ m → unsigned_abs b ≤ n → unsigned_abs (a +ℤ b) ≤ m + n
    both a b m n h k = omega (arith, within)

-- the middle of an edge is on its line
own_side : (e : Edge) → side_of e (middle_of e) ≡ pos 0
own_side e =
    ring (e.low.x ∷ e.low.y ∷ e.high.x ∷ e.high.y ∷ [])
    ((var 0 ⊗ con (pos 2) ⊖ (var 0 ⊕ var 2)) ⊗ (var 3 ⊖ var 1) ⊕ (var 2 ⊖ var 0) ⊗ ((var 1 ⊕ var 3) ⊖ var 1 ⊗ con (pos 2)))
    (con (pos 0)) refl

and-false : (b : Bool) → (b && false) ≡ false
and-false true = refl
and-false false = refl

-- so the ray from there does not cross the edge itself
not_own : (e : Edge) → is_crossed e (middle_of e) ≡ false
not_own e = rw (own_side e) (and-false _)

pub all_others : (e : Edge) (es : List Edge) → others_crossed es e ≡ count_by (λ f. is_crossed f (middle_of e)) es
all_others e [] = refl
all_others e (f ∷ es) =
    count-cons (λ f. not (is_same_edge e f) && is_crossed f (middle_of e)) f es
    ∙ ap (λ n. cond (not (is_same_edge e f) && is_crossed f (middle_of e)) 1 0 + n) (all_others e es)
    ∙ ap (λ b. cond b 1 0 + count_by (λ f. is_crossed f (middle_of e)) es) (same (is_same_edge e f) refl)
    ∙ sym (count-cons (λ f. is_crossed f (middle_of e)) f es)
  where
    same : (b : Bool) → is_same_edge e f ≡ b → (not b && is_crossed f (middle_of e)) ≡ is_crossed f (middle_of e)
    same false h = refl
    same true h = sym (subst (λ (g : Edge). is_crossed g (middle_of e) ≡ false) (same_edges_equal e f h) (not_own e))

halves : (n : ℕ) → (n % 2 ≡ 0) ⊎ (n % 2 ≡ 1)
halves n = grind arith

no_truth : {P : Type 0} → IsTrue false → P
no_truth h = cc

-- the sign of a term, by the test of the middle
pub term_is : (es : List Edge) (e : Edge) (inside : Bool) (v r : ℤ) → (IsTrue inside ↔ IsInside es (middle_of e)) → v ≡ swept e → r ≡ cond inside (pos 0 -ℤ v) v → r ≡ signed_term es e
term_is es e true v r h s q =
    let o : others_crossed es e % 2 ≡ 1 = ap (λ (n : ℕ). n % 2) (all_others e es) ∙ h.0 refl in
    rw o (q ∙ ap (λ z. pos 0 -ℤ z) s)
term_is es e false v r h s q = go (halves (count_by (λ f. is_crossed f (middle_of e)) es))
  where
    go : (count_by (λ f. is_crossed f (middle_of e)) es % 2 ≡ 0) ⊎ (count_by (λ f. is_crossed f (middle_of e)) es % 2 ≡ 1) → r ≡ signed_term es e
    go (inl k) =
        let o : others_crossed es e % 2 ≡ 0 = ap (λ (n : ℕ). n % 2) (all_others e es) ∙ k in
        rw o (q ∙ s)
    go (inr k) = no_truth (h.1 k)

swept_size : (e : Edge) → unsigned_abs (swept e) ≤ 2 ^ 62
swept_size e = abs-mul (e.low.x +ℤ e.high.x) (rise e) (2 ^ 31) (2 ^ 31) (sum_size e.low.x e.high.x e.low.x_in_range e.high.x_in_range) (gap_size e.high.y e.low.y e.high.y_in_range e.low.y_in_range)
  where
    sum_size : (a b : ℤ) → IsCoordinate a → IsCoordinate b → unsigned_abs (a +ℤ b) ≤ 2 ^ 31
    sum_size a b h k = omega (arith, within, h.least, h.most, k.least, k.most)

    gap_size : (a b : ℤ) → IsCoordinate a → IsCoordinate b → unsigned_abs (a -ℤ b) ≤ 2 ^ 31
    gap_size a b h k = omega (arith, within, h.least, h.most, k.least, k.most)

pub term_size : (es : List Edge) (e : Edge) → unsigned_abs (signed_term es e) ≤ 2 ^ 62
term_size es e = go (eqb (others_crossed es e % 2) 0) (swept e) (swept_size e)
  where
    go : (b : Bool) (z : ℤ) → unsigned_abs z ≤ 2 ^ 62 → unsigned_abs (cond b z (pos 0 -ℤ z)) ≤ 2 ^ 62
    go true z h = h
    go false z h = omega (arith, within)

-- the sum over the first i edges
pub part_size : (es fs : List Edge) (i : ℕ) → i ≤ length es → i ≤ STEPS → unsigned_abs (sum_over (signed_term fs) (take i es)) ≤ 2 ^ 83
part_size es fs i h k =
    let s = sum_over-size (signed_term fs) (2 ^ 62) (take i es) (term_size fs) in
    let l = length-take-le i es h in
    omega (arith, s, l)

pub next_size : (a b : ℤ) → unsigned_abs a ≤ 2 ^ 83 → unsigned_abs b ≤ 2 ^ 62 → FitsSigned w128 (a +ℤ b)
next_size a b h k = omega (arith, within)

-- ---- the whole weight
pub factor_fits : (a b : ℕ) → a ≤ 100 → b ≤ 100 → (a * b ≤ 10000)
factor_fits a b h k = mul-le-mul h k

pub whole_fits : (n : ℕ) (s : ℤ) → n ≤ 10000 → unsigned_abs s ≤ 2 ^ 83 → FitsSigned w128 (pos n *ℤ s)
whole_fits n s h k = fits_signed_mul w128 (pos n) s 10000 (2 ^ 83) (omega (arith, within)) k (lit< tt)

-- an area's edges are some of all
pub few_of : (areas : List OddArea) (v : ℕ) (m : ℕ) → v < length areas → odd_edge_count areas ≤ m → length (odd_of (odds_of areas) v) ≤ m
few_of areas v m h k =
    let d : OddArea = record { class = []; odd_edges = [] } in
    let one = get_or-le-sum_by (λ (a : OddArea). length a.odd_edges) areas v d h in
    let same = ap length (get_or-map (λ (a : OddArea). a.odd_edges) areas v d [] h) in
    omega (arith, one, same, k)

-- ---- edges that every spot crosses alike
pub signed_alike : (es fs : List Edge) → AreCrossedAlike es fs → (e : Edge) → signed_term es e ≡ signed_term fs e
signed_alike es fs h e =
    ap (λ (n : ℕ). cond (eqb (n % 2) 0) (swept e) (pos 0 -ℤ swept e)) (all_others e es ∙ h (middle_of e) ∙ sym (all_others e fs))

pub sum_over-same : (f g : Edge → ℤ) (es : List Edge) → ((e : Edge) → f e ≡ g e) → sum_over f es ≡ sum_over g es
sum_over-same f g [] h = refl
sum_over-same f g (e ∷ es) h = ap (λ z. z +ℤ sum_over f es) (h e) ∙ ap (λ z. g e +ℤ z) (sum_over-same f g es h)

pub weight_alike : (wide high : ℕ) (es fs : List Edge) → AreCrossedAlike es fs → pos (wide * high) *ℤ sum_over (signed_term es) fs ≡ weight_of_edges wide high fs
weight_alike wide high es fs h = ap (λ z. pos (wide * high) *ℤ z) (sum_over-same (signed_term es) (signed_term fs) fs (signed_alike es fs h))
