-- The order of points and of edges, as `cmp` gives it and as the definitions say it.
use Rattle.std.proofs.Common.{◌≡◌, ◌≢◌, ◌↔◌, refl, sym, ◌∙◌, ap, subst, arith, Bool, true, false, true≢false, ◌&&◌, ◌||◌, ℤ, int_lt, int_le, int_cmp, is_lt}
use Rattle.std.proofs.Common.{Ordering, Less, Equal, Greater}
use Rattle.std.specs.Ordering.{ordering_then, ordering_reverse, int_eq, is_eq}
use Rattle.std.specs.Cmp.{IsTotalOrder}
use Rattle.std.proofs.lemmas.Int.{ints}
use Rattle.std.proofs.lemmas.Cmp.{int_cmp_total, on_total, then_total, tied_itself}
use Rattle.plane_edge.specs.declared.edge.Edge.{Edge}
use Rattle.plane_edge.specs.declared.point.Point.{Point}
use Rattle.plane_edge.specs.Edges.{is_same_point, is_same_edge, is_edge_below}
use Rattle.plane_edge.specs.Order.{is_below}
use Rattle.plane_edge.specs.Plane.{HaveSameEnds}
use Rattle.plane_edge.proofs.EqualLemmas.{points_equal, edges_equal}

-- what `cmp` answers
abbrev pub point_order : Point → Point → Ordering
point_order p q = ordering_then (int_cmp p.y q.y) (int_cmp p.x q.x)

abbrev pub edge_order : Edge → Edge → Ordering
edge_order e f = ordering_then (point_order e.low f.low) (point_order e.high f.high)

pub point_order_total : IsTotalOrder point_order
point_order_total = then_total (on_total (λ p. p.y) int_cmp_total) (on_total (λ p. p.x) int_cmp_total)

pub edge_order_total : IsTotalOrder edge_order
edge_order_total = then_total (on_total (λ e. e.low) point_order_total) (on_total (λ e. e.high) point_order_total)

-- ---- tests
lt_then : (o r : Ordering) → is_lt (ordering_then o r) ≡ (is_lt o || (is_eq o && is_lt r))
lt_then Less r = refl
lt_then Equal r = refl
lt_then Greater r = refl

eq_then : (o r : Ordering) → is_eq (ordering_then o r) ≡ (is_eq o && is_eq r)
eq_then Less r = refl
eq_then Equal r = refl
eq_then Greater r = refl

place_below : (a b c d : ℤ) → (int_lt b d || (int_le b d && int_lt a c)) ≡ (is_lt (int_cmp b d) || (is_eq (int_cmp b d) && is_lt (int_cmp a c)))
place_below a b c d = grind (arith, ints)

swapped : (a b : Bool) → a && b ≡ b && a
swapped true true = refl
swapped true false = refl
swapped false true = refl
swapped false false = refl

pub below_is_less : (p q : Point) → is_below p q ≡ is_lt (point_order p q)
below_is_less p q = place_below p.x p.y q.x q.y ∙ sym (lt_then (int_cmp p.y q.y) (int_cmp p.x q.x))

pub same_is_equal : (p q : Point) → is_same_point p q ≡ is_eq (point_order p q)
same_is_equal p q = swapped (int_eq p.x q.x) (int_eq p.y q.y) ∙ sym (eq_then (int_cmp p.y q.y) (int_cmp p.x q.x))

pub edge_below_is_less : (e f : Edge) → is_edge_below e f ≡ is_lt (edge_order e f)
edge_below_is_less e f =
    ap (λ b. b || (is_same_point e.low f.low && is_below e.high f.high)) (below_is_less e.low f.low)
    ∙ ap (λ b. is_lt (point_order e.low f.low) || (b && is_below e.high f.high)) (same_is_equal e.low f.low)
    ∙ ap (λ b. is_lt (point_order e.low f.low) || (is_eq (point_order e.low f.low) && b)) (below_is_less e.high f.high)
    ∙ sym (lt_then (point_order e.low f.low) (point_order e.high f.high))

pub same_edge_is_equal : (e f : Edge) → is_same_edge e f ≡ is_eq (edge_order e f)
same_edge_is_equal e f =
    ap (λ b. b && is_same_point e.high f.high) (same_is_equal e.low f.low)
    ∙ ap (λ b. is_eq (point_order e.low f.low) && b) (same_is_equal e.high f.high)
    ∙ sym (eq_then (point_order e.low f.low) (point_order e.high f.high))

-- ---- equality
same_parts : (a b c d : ℤ) → (int_eq a c && int_eq b d) ≡ true → (a ≡ c) × (b ≡ d)
same_parts a b c d h = grind (arith, ints)

and_parts : (a b : Bool) → (a && b) ≡ true → (a ≡ true) × (b ≡ true)
and_parts true b h = (refl, h)
and_parts false b h = absurd (true≢false (sym h))

pub same_points_equal : (p q : Point) → is_same_point p q ≡ true → p ≡ q
same_points_equal p q h = let k = same_parts p.x p.y q.x q.y h in points_equal p q k.0 k.1

pub same_edges_equal : (e f : Edge) → is_same_edge e f ≡ true → e ≡ f
same_edges_equal e f h =
    let k = and_parts (is_same_point e.low f.low) (is_same_point e.high f.high) h in
    let l = same_parts e.low.x e.low.y f.low.x f.low.y k.0 in
    let u = same_parts e.high.x e.high.y f.high.x f.high.y k.1 in
    let s : HaveSameEnds e f = record { low_x = l.0; low_y = l.1; high_x = u.0; high_y = u.1 } in
    edges_equal e f s

is_eq_equal : (o : Ordering) → o ≡ Equal → is_eq o ≡ true
is_eq_equal o h = ap is_eq h

pub same_point_itself : (p : Point) → is_same_point p p ≡ true
same_point_itself p = same_is_equal p p ∙ is_eq_equal (point_order p p) (tied_itself point_order_total p)

pub same_edge_itself : (e : Edge) → is_same_edge e e ≡ true
same_edge_itself e = same_edge_is_equal e e ∙ is_eq_equal (edge_order e e) (tied_itself edge_order_total e)

pub equal_edges_same : (e f : Edge) → e ≡ f → is_same_edge e f ≡ true
equal_edges_same e f h = subst (λ (g : Edge). is_same_edge e g ≡ true) h (same_edge_itself e)

-- ---- order
less_of : (o : Ordering) → is_lt o ≡ true → o ≡ Less
less_of Less h = refl
less_of Equal h = absurd (true≢false (sym h))
less_of Greater h = absurd (true≢false (sym h))

pub edge_less : (e f : Edge) → (edge_order e f ≡ Less) ↔ (is_edge_below e f ≡ true)
edge_less e f = ((λ h. edge_below_is_less e f ∙ ap is_lt h), (λ h. less_of (edge_order e f) (sym (edge_below_is_less e f) ∙ h)))

pub edge_below-trans : (e f g : Edge) → is_edge_below e f ≡ true → is_edge_below f g ≡ true → is_edge_below e g ≡ true
edge_below-trans e f g h k = (edge_less e g).0 (edge_order_total.trans e f g ((edge_less e f).1 h) ((edge_less f g).1 k))

equal_not_less : (o : Ordering) → o ≡ Equal → is_lt o ≡ false
equal_not_less o h = ap is_lt h

pub edge_below-irreflexive : (e : Edge) → is_edge_below e e ≡ false
edge_below-irreflexive e = edge_below_is_less e e ∙ equal_not_less (edge_order e e) (tied_itself edge_order_total e)

pub edge_below-differ : (e f : Edge) → is_edge_below e f ≡ true → e ≢ f
edge_below-differ e f h = λ q. true≢false (sym h ∙ subst (λ (g : Edge). is_edge_below e g ≡ false) q (edge_below-irreflexive e))

-- the three cases of two edges
pub data EdgeCase (e f : Edge) : Type 0 where
  below : is_edge_below e f ≡ true → EdgeCase e f
  same : e ≡ f → EdgeCase e f
  above : is_edge_below f e ≡ true → EdgeCase e f

pub edge_case : (e f : Edge) → EdgeCase e f
edge_case e f = go (edge_order e f) refl (edge_order_total.antisymm f e)
  where
    go : (o : Ordering) → edge_order e f ≡ o → edge_order f e ≡ ordering_reverse (edge_order e f) → EdgeCase e f
    go Less h k = below ((edge_less e f).0 h)
    go Equal h k = same (same_edges_equal e f (same_edge_is_equal e f ∙ ap is_eq h))
    go Greater h k = above ((edge_less f e).0 (k ∙ ap ordering_reverse h))

pub edge_below-one_way : (e f : Edge) → is_edge_below e f ≡ true → is_edge_below f e ≡ false
edge_below-one_way e f h = go (is_edge_below f e) refl
  where
    go : (b : Bool) → is_edge_below f e ≡ b → b ≡ false
    go true k = absurd (true≢false (sym (edge_below-trans e f e h k) ∙ edge_below-irreflexive e))
    go false k = refl

pub point_irreflexive : (p : Point) → is_below p p ≡ false
point_irreflexive p = below_is_less p p ∙ equal_not_less (point_order p p) (tied_itself point_order_total p)
