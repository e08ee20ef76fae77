-- Where each point is an end of an even number of the edges, each height is reached by an even number of them.
use Rattle.std.proofs.Common.{◌≡◌, ◌+◌, ◌*◌, ◌%◌, refl, sym, ◌∙◌, ap, arith, Bool, true, false, true≢false, ◌&&◌, ◌||◌, cond, List, [], ◌∷◌, count_by, ℤ, pos, ◌*ℤ◌, ◌≤ℤ◌, ◌<ℤ◌, int_lt, int_le}
use Rattle.std.proofs.lemmas.Int.{ints}
use Rattle.plane_edge.specs.declared.edge.Edge.{Edge}
use Rattle.plane_edge.specs.declared.point.Point.{Point}
use Rattle.plane_edge.specs.Edges.{is_same_point, HaveEvenEnds, is_reached, IsClosed}
use Rattle.plane_edge.specs.Line.{is_end_of}
use Rattle.plane_edge.specs.Order.{is_below}
use Rattle.whole_ring.proofs.Laws.{*ℤ_comm}
use Rattle.whole_ring.proofs.Signs.{lin, le-mul}
use Rattle.plane_edge.proofs.EvenLists.{count-cons, even_all}
use Rattle.plane_edge.proofs.OrderLemmas.{same_points_equal, same_point_itself, point_irreflexive}

-- the ends of the edges, one after another
abbrev pub ends : List Edge → List Point
ends [] = []
ends (e ∷ es) = e.low ∷ e.high ∷ ends es

ends_more : (g : Point → Bool) (e : Edge) (es : List Edge) → count_by g (ends (e ∷ es)) ≡ cond (g e.low) 1 0 + (cond (g e.high) 1 0 + count_by g (ends es))
ends_more g e es = count-cons g e.low (e.high ∷ ends es) ∙ ap (λ n. cond (g e.low) 1 0 + n) (count-cons g e.high (ends es))

one_end : (a b : Bool) → (a ≡ true → b ≡ true → ⊥) → cond (a || b) 1 0 ≡ cond a 1 0 + cond b 1 0
one_end true true h = absurd (h refl refl)
one_end true false h = refl
one_end false true h = refl
one_end false false h = refl

-- no point is both ends of an edge
pub not_both : (e : Edge) (p : Point) → is_same_point e.low p ≡ true → is_same_point e.high p ≡ true → ⊥
not_both e p h k =
    let q : e.low ≡ e.high = same_points_equal e.low p h ∙ sym (same_points_equal e.high p k) in
    true≢false (sym e.rising ∙ ap (λ r. is_below e.low r) (sym q) ∙ point_irreflexive e.low)

pub ends_counted : (p : Point) (es : List Edge) → count_by (λ q. is_same_point q p) (ends es) ≡ count_by (λ e. is_end_of e p) es
ends_counted p [] = refl
ends_counted p (e ∷ es) =
    let k = one_end (is_same_point e.low p) (is_same_point e.high p) (not_both e p) in
    omega (arith, ends_more (λ q. is_same_point q p) e es, count-cons (λ f. is_end_of f p) e es, ends_counted p es, k)

reach_parts : (l h y : ℤ) → l ≤ℤ h → cond (int_le l y && int_lt y h) 1 0 + 2 * cond (int_le h y) 1 0 ≡ cond (int_le l y) 1 0 + cond (int_le h y) 1 0
reach_parts l h y k = grind (arith, ints)

low_upto_high : (a b c d : ℤ) → (int_lt b d || (int_le b d && int_lt a c)) ≡ true → b ≤ℤ d
low_upto_high a b c d h = grind (arith, ints)

pub rises : (e : Edge) → e.low.y ≤ℤ e.high.y
rises e = low_upto_high e.low.x e.low.y e.high.x e.high.y e.rising

reaches_counted : (y m : ℤ) → pos 0 <ℤ m → (es : List Edge) →
    count_by (λ e. is_reached y m e) es + 2 * count_by (λ e. int_le (e.high.y *ℤ m) y) es ≡ count_by (λ p. int_le (p.y *ℤ m) y) (ends es)
reaches_counted y m h [] = refl
reaches_counted y m h (e ∷ es) =
    let up : (m *ℤ e.low.y) ≤ℤ (m *ℤ e.high.y) = le-mul m e.low.y e.high.y (omega (arith, lin)) (rises e) in
    let k = reach_parts (e.low.y *ℤ m) (e.high.y *ℤ m) y (omega (arith, lin, *ℤ_comm m e.low.y, *ℤ_comm m e.high.y)) in
    omega (arith, ends_more (λ p. int_le (p.y *ℤ m) y) e es, count-cons (λ f. is_reached y m f) e es, count-cons (λ f. int_le (f.high.y *ℤ m) y) e es, reaches_counted y m h es, k)

pub ends_even : (es : List Edge) → HaveEvenEnds es → (g : Point → Bool) → count_by g (ends es) % 2 ≡ 0
ends_even es h g =
    even_all (λ p q. is_same_point q p) (λ p q e. sym (same_points_equal q p e)) same_point_itself g (ends es)
    (λ p. ap (λ n. n % 2) (ends_counted p es) ∙ h p)

pub closed_from_even_ends : (es : List Edge) → HaveEvenEnds es → IsClosed es
closed_from_even_ends es h = λ y m r. omega (arith, reaches_counted y m r es, ends_even es h (λ p. int_le (p.y *ℤ m) y))
