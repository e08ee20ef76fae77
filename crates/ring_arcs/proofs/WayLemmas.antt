-- Ways lead back too, and at most two ways leave a point that is no break.
use Rattle.std.proofs.Common.{◌≡◌, ◌≢◌, ◌⊎◌, inl, inr, ℕ, zero, suc, ◌+◌, ◌<◌, ◌≤◌, refl, sym, ◌∙◌, ap, subst, arith, Bool, true, false, true≢false, not, ◌||◌, ◌&&◌, if◌then◌else◌, List, [], ◌∷◌, ◌++◌, length, get_or, take, map, flat_map, append_assoc, Vec, Global, ◌↔◌, Contains, count_by, eqb, int_cmp}
use Rattle.std.proofs.Common.{Ordering, Less, Equal, Greater}
use Rattle.std.specs.Ordering.{ordering_then, int_eq, is_eq, eq_by_cmp}
use Rattle.std.specs.Cmp.{IsEquivalence}
use Rattle.std.proofs.lemmas.Bool.{eqb-true}
use Rattle.std.proofs.lemmas.List.{flat_map_more, take_more}
use Rattle.std.specs.List.{list_any}
use Rattle.plane_edge.specs.declared.point.Point.{Point}
use Rattle.plane_edge.specs.Edges.{is_same_point}
use Rattle.plane_edge.specs.Order.{is_below}
use Rattle.plane_edge.specs.Rings.{ends_of, in_order, steps_of_ring, is_same_step, times}
use Rattle.plane_edge.specs.declared.edge.Edge.{Edge}
use Rattle.plane_edge.proofs.OrderLemmas.{same_is_equal, same_points_equal, same_point_itself, point_irreflexive}
use Rattle.plane_edge.proofs.EvenLists.{bit, bit_yes, count-cons}
use Rattle.ring_arcs.specs.Breaks.{is_break}
use Rattle.ring_arcs.specs.Chains.{HasWay, AreSymmetric}
use Rattle.agg_base.specs.Lists.{lists_of}
use Rattle.ring_arcs.specs.Rings.{steps_of_rings}
use Rattle.ring_arcs.specs.Ways.{point_order, way_order, both_ways, AreWaysOf}
use Rattle.ring_arcs.proofs.Points.{true_not_false, point_case, same_or_not, in_order-comm, ends_of_step, is_same, same_steps_equal, equal_steps_same}
use Rattle.ring_arcs.proofs.Points.PointCase.{below, same, above}
use Rattle.ring_arcs.proofs.Counts.{count-some, piece_that_contains, contains_piece, from_map, into_map, flat_map-map}
use Rattle.ring_arcs.proofs.ChainLemmas.{AreWays}

pub symmetric_ways : (steps ways : List (Point × Point)) → AreWaysOf steps ways → AreSymmetric ways
symmetric_ways steps ways h = λ p q w. (h q p).1 (subst (λ (s : Point × Point). Contains steps s) (in_order-comm p q) ((h p q).0 w))

one_at_most : (x y z t : Bool) → (x ≡ true → y ≡ true → ⊥) → (x ≡ true → z ≡ true → ⊥) → (y ≡ true → z ≡ true → ⊥) → (x ≡ true → t ≡ true) → (y ≡ true → t ≡ true) → (z ≡ true → t ≡ true) → bit x + bit y + bit z ≤ bit t
one_at_most true true z t a b c f g h = absurd (a refl refl)
one_at_most true false true t a b c f g h = absurd (b refl refl)
one_at_most true false false t a b c f g h = let k = bit_yes t (f refl) in omega arith
one_at_most false true true t a b c f g h = absurd (c refl refl)
one_at_most false true false t a b c f g h = let k = bit_yes t (g refl) in omega arith
one_at_most false false true t a b c f g h = let k = bit_yes t (h refl) in omega arith
one_at_most false false false t a b c f g h = omega arith

ends_alike : (p a b : Point) (w : Point × Point) → is_same_step (p, a) w ≡ true → is_same_step (p, b) w ≡ true → a ≡ b
ends_alike p a b w h k = ap (λ (s : Point × Point). s.1) (same_steps_equal (p, a) w h ∙ sym (same_steps_equal (p, b) w k))

leaves : (p a : Point) (w : Point × Point) → is_same_step (p, a) w ≡ true → is_same_point w.0 p ≡ true
leaves p a w h = is_same w.0 p (ap (λ (s : Point × Point). s.0) (sym (same_steps_equal (p, a) w h)))

-- ways from a point to three different ones are three of those that leave it
three_leave : (p a b c : Point) → a ≢ b → a ≢ c → b ≢ c → (ways : List (Point × Point)) → times (p, a) ways + times (p, b) ways + times (p, c) ways ≤ count_by (λ w. is_same_point w.0 p) ways
three_leave p a b c x y z [] = omega arith
three_leave p a b c x y z (w ∷ ws) =
    let here : bit (is_same_step (p, a) w) + bit (is_same_step (p, b) w) + bit (is_same_step (p, c) w) ≤ bit (is_same_point w.0 p) = one_at_most (is_same_step (p, a) w) (is_same_step (p, b) w) (is_same_step (p, c) w) (is_same_point w.0 p)
    (λ h k. x (ends_alike p a b w h k)) (λ h k. y (ends_alike p a c w h k)) (λ h k. z (ends_alike p b c w h k)) (leaves p a w) (leaves p b w) (leaves p c w) in
    omega (arith, count-cons (λ e. is_same_step (p, a) e) w ws, count-cons (λ e. is_same_step (p, b) e) w ws, count-cons (λ e. is_same_step (p, c) e) w ws, count-cons (λ e. is_same_point e.0 p) w ws, three_leave p a b c x y z ws)

pub stands : (s : Point × Point) (steps : List (Point × Point)) → Contains steps s → 1 ≤ times s steps
stands s steps c = count-some (λ e. is_same_step s e) steps c.0 s c.1 (equal_steps_same s (get_or steps c.0 s) (sym c.2))

two_leave : (ways : List (Point × Point)) (loops : List Point) (p : Point) → is_break ways loops p ≡ false → count_by (λ w. is_same_point w.0 p) ways ≡ 2
two_leave ways loops p h = eqb-true (count_by (λ w. is_same_point w.0 p) ways) 2 (not_node (eqb (count_by (λ w. is_same_point w.0 p) ways) 2) (list_any (λ q. is_same_point q p) loops) h)
  where
    not_node : (a b : Bool) → (not a || b) ≡ false → a ≡ true
    not_node true b h = refl
    not_node false b h = absurd (true≢false h)

pub are_ways : (ways : List (Point × Point)) (loops : List Point) → AreSymmetric ways → AreWays (HasWay ways) (is_break ways loops)
are_ways ways loops s = record {
  back = s;
  two = λ p a b c h u v w x y. (elim (same_or_not b c) [
    | inl q ↦ q
    | inr q ↦
        let n : count_by (λ w. is_same_point w.0 p) ways ≡ 2 = two_leave ways loops p h in
        absurd (omega (arith, three_leave p a b c x y q ways, stands (p, a) ways u, stands (p, b) ways v, stands (p, c) ways w))
  ]);
}

-- ---- ways as `sort` and `dedup` see them
abbrev pub way_eq : Point × Point → Point × Point → Bool
way_eq v w = (int_eq v.0.y w.0.y && int_eq v.0.x w.0.x) && (int_eq v.1.y w.1.y && int_eq v.1.x w.1.x)

eq_then : (o r : Ordering) → is_eq (ordering_then o r) ≡ (is_eq o && is_eq r)
eq_then Less r = refl
eq_then Equal r = refl
eq_then Greater r = refl

abbrev pub point_eq : Point → Point → Bool
point_eq p q = int_eq p.y q.y && int_eq p.x q.x

pub point_ties : (p q : Point) → point_eq p q ≡ eq_by_cmp point_order p q
point_ties p q = sym (eq_then (int_cmp p.y q.y) (int_cmp p.x q.x))

pub way_ties : (v w : Point × Point) → way_eq v w ≡ eq_by_cmp way_order v w
way_ties v w =
    ap (λ b. b && (int_eq v.1.y w.1.y && int_eq v.1.x w.1.x)) (point_ties v.0 w.0)
    ∙ ap (λ b. is_eq (point_order v.0 w.0) && b) (point_ties v.1 w.1)
    ∙ sym (eq_then (point_order v.0 w.0) (point_order v.1 w.1))

point_same : (p q : Point) → point_eq p q ≡ is_same_point p q
point_same p q = point_ties p q ∙ sym (same_is_equal p q)

pub point_eq_same : (p q : Point) → point_eq p q ≡ true → p ≡ q
point_eq_same p q h = same_points_equal p q (sym (point_same p q) ∙ h)

pub point_eq_itself : (p : Point) → point_eq p p ≡ true
point_eq_itself p = point_same p p ∙ same_point_itself p

way_same : (v w : Point × Point) → way_eq v w ≡ is_same_step v w
way_same v w =
    ap (λ b. b && (int_eq v.1.y w.1.y && int_eq v.1.x w.1.x)) (point_ties v.0 w.0 ∙ sym (same_is_equal v.0 w.0))
    ∙ ap (λ b. is_same_point v.0 w.0 && b) (point_ties v.1 w.1 ∙ sym (same_is_equal v.1 w.1))

pub way_eq_same : (v w : Point × Point) → way_eq v w ≡ true → v ≡ w
way_eq_same v w h = same_steps_equal v w (sym (way_same v w) ∙ h)

pub way_eq_itself : (w : Point × Point) → way_eq w w ≡ true
way_eq_itself w = way_same w w ∙ equal_steps_same w w refl

bool_same : (a b : Bool) → (a ≡ true → b ≡ true) → (b ≡ true → a ≡ true) → a ≡ b
bool_same true b h k = sym (h refl)
bool_same false true h k = k refl
bool_same false false h k = refl

pub equivalence : {X : Type 0} (E : X → X → Bool) → ((x : X) → E x x ≡ true) → ((x y : X) → E x y ≡ true → x ≡ y) → IsEquivalence E
equivalence {X} E itself equal = record {
  refl = itself;
  symm = λ x y. bool_same (E x y) (E y x) (λ h. subst (λ (z : X). E z x ≡ true) (equal x y h) (itself x)) (λ h. subst (λ (z : X). E z y ≡ true) (equal y x h) (itself y));
  congr = λ x y z h. ap (λ w. E w z) (equal x y h);
}

-- ---- the ways along edges
edge_ends : (e : Edge) → in_order e.low e.high ≡ (e.low, e.high)
edge_ends e = elim (point_case e.low e.high) [
  | below a b ↦ ap (λ (t : Bool). if t then (e.high, e.low) else (e.low, e.high)) b
  | same s ↦ true_not_false (is_below e.low e.high) e.rising (subst (λ (p : Point). is_below e.low p ≡ false) s (point_irreflexive e.low))
  | above a b ↦ true_not_false (is_below e.low e.high) e.rising b
]

abbrev ways_along : Edge → List (Point × Point)
ways_along e = (e.low, e.high) ∷ (e.high, e.low) ∷ []

one_of_two : (v w s : Point × Point) → Contains (v ∷ w ∷ []) s → (v ≡ s) ⊎ (w ≡ s)
one_of_two v w s c = go c.0 c.1 c.2
  where
    go : (k : ℕ) → k < 2 → get_or (v ∷ w ∷ []) k s ≡ s → (v ≡ s) ⊎ (w ≡ s)
    go zero l e = inl e
    go (suc zero) l e = inr e
    go (suc (suc k)) l e = absurd (omega arith)

pub ways_of_edges : (edges : List Edge) (steps : List (Point × Point)) → map ends_of edges ≡ steps → AreWaysOf steps (both_ways edges)
ways_of_edges edges steps h p q = (there, back)
  where
    there : Contains (both_ways edges) (p, q) → Contains steps (in_order p q)
    there c =
        let r = piece_that_contains ways_along edges (p, q) c in
        let e : Edge = r.1 in
        let is : in_order p q ≡ ends_of e = elim (one_of_two (e.low, e.high) (e.high, e.low) (p, q) r.4) [
          | inl a ↦ subst (λ (s : Point × Point). in_order s.0 s.1 ≡ ends_of e) a (edge_ends e)
          | inr a ↦ subst (λ (s : Point × Point). in_order s.0 s.1 ≡ ends_of e) a (in_order-comm e.high e.low ∙ edge_ends e)
        ] in
        let inside : Contains (map ends_of edges) (ends_of e) = into_map ends_of edges e (r.0, r.2, r.3) in
        subst (λ (l : List (Point × Point)). Contains l (in_order p q)) h (subst (λ (s : Point × Point). Contains (map ends_of edges) s) (sym is) inside)

    back : Contains steps (in_order p q) → Contains (both_ways edges) (p, q)
    back c =
        let r = from_map ends_of edges (in_order p q) (subst (λ (l : List (Point × Point)). Contains l (in_order p q)) (sym h) c) in
        let e : Edge = r.0 in
        let one : Contains (ways_along e) (p, q) = elim (ends_of_step e.low e.high p q (edge_ends e ∙ r.1.1)) [
          | inl a ↦ (0, omega arith, ap (λ (x : Point). (x, e.high)) a.0 ∙ ap (λ (x : Point). (p, x)) a.1)
          | inr a ↦ (1, omega arith, ap (λ (x : Point). (x, e.low)) a.1 ∙ ap (λ (x : Point). (p, x)) a.0)
        ] in
        contains_piece ways_along edges (p, q) (r.1.0.0, e, r.1.0.1, r.1.0.2, one)

pub ways_more : (edges : List Edge) (i : ℕ) (e : Edge) (ways one two : List (Point × Point)) → i < length edges → e ≡ get_or edges i e → ways ≡ both_ways (take i edges) → one ≡ ways ++ (e.low, e.high) ∷ [] → two ≡ one ++ (e.high, e.low) ∷ [] → two ≡ both_ways (take (i + 1) edges)
ways_more edges i e ways one two l is before a b =
    let both : two ≡ ways ++ ways_along e = b ∙ ap (λ (ws : List (Point × Point)). ws ++ (e.high, e.low) ∷ []) a ∙ append_assoc ways ((e.low, e.high) ∷ []) ((e.high, e.low) ∷ []) in
    both ∙ ap (λ (ws : List (Point × Point)). ws ++ ways_along e) before
    ∙ flat_map_more ways_along [] (take i edges) e
    ∙ ap (λ (f : Edge). both_ways (take i edges ++ f ∷ [])) is
    ∙ sym (ap both_ways (take_more edges i e l))

-- the ways along the steps of all rings
pub ways_of_rings : (edges : List Edge) (rings : List (Vec Point Global)) → map ends_of edges ≡ flat_map (λ ring. steps_of_ring ring.items) rings → AreWaysOf (steps_of_rings (lists_of rings)) (both_ways edges)
ways_of_rings edges rings h = ways_of_edges edges (steps_of_rings (lists_of rings)) (h ∙ sym (flat_map-map steps_of_ring (λ (ring : Vec Point Global). ring.items) rings))

-- the same ways in other places
pub same_ways : (steps one two : List (Point × Point)) → ((w : Point × Point) → Contains two w ↔ Contains one w) → AreWaysOf steps one → AreWaysOf steps two
same_ways steps one two s h p q = ((λ c. (h p q).0 ((s (p, q)).0 c)), (λ c. (s (p, q)).1 ((h p q).1 c)))
