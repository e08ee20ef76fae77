-- The areas' odd edges as uses, distinct edges, borders and heights: what holds of one holds of the other.
use Rattle.std.proofs.Common.{◌≡◌, ◌↔◌, ℕ, suc, ◌%◌, ◌<◌, ◌⊎◌, inl, inr, refl, sym, ◌∙◌, ap, subst, arith, Bool, true, false, true≢false, eqb, ◌&&◌, int_lt, cond, List, [], ◌∷◌, length, get_or, map, All, Contains, count_by, IsTrue, ℤ, pos, ◌*ℤ◌, ◌≤ℤ◌, ◌<ℤ◌}
use Rattle.std.specs.List.{filter}
use Rattle.std.proofs.lemmas.Int.{ints}
use Rattle.std.proofs.lemmas.Bool.{or_left, eq-eqb}
use Rattle.std.proofs.lemmas.List.{get_or-map, length-map}
use Rattle.std.proofs.lemmas.List.Elements.{All-filter, Contains-get_or, Contains-append_cases, Contains-append_right}
use Rattle.std.proofs.lemmas.List.Kept.{AllPairs-filter}
use Rattle.plane_edge.specs.declared.edge.Edge.{Edge}
use Rattle.plane_edge.specs.declared.spot.Spot.{Spot}
use Rattle.plane_edge.specs.Coordinate.{IsCoordinate}
use Rattle.plane_edge.specs.Edges.{is_edge_below, IsRisingEdges, is_reached, IsClosed}
use Rattle.plane_edge.specs.Plane.{IsInside, is_crossed, side_of}
use Rattle.plane_edge.proofs.OddLemmas.{rising_unique}
use Rattle.plane_strip.specs.Strip.{IsPlanar, IsRising, EndsAt}
use Rattle.plane_strip.proofs.LeastLemmas.{reach_parts}
use Rattle.plane_strip.proofs.MidLemmas.{test_range}
use Rattle.whole_ring.proofs.Laws.{*ℤ_comm}
use Rattle.whole_ring.proofs.Signs.{lin, le-mul, either_way}
use Rattle.coverage_check.specs.declared.border.Border.{Border}
use Rattle.coverage_check.specs.declared.usage.Use.{Use}
use Rattle.coverage_check.specs.Active.{AreRisingBorders, AreLaidOut}
use Rattle.coverage_check.specs.Bordering.{AreBordersOf}
use Rattle.coverage_check.specs.Cover.{odd_of, IsOddIn, IsOddSomewhere, IsHeight}
use Rattle.coverage_check.specs.Heights.{end_heights_of}
use Rattle.coverage_check.specs.Uses.{AreUsesOf, AreEdgesOf}
use Rattle.coverage_check.specs.Areas.{is_this}
use Rattle.coverage_check.specs.Walk.{is_of, odds_in}
use Rattle.coverage_check.proofs.Counts.{count_same, count-filter, Contains-later, Contains-map, from_map}
use Rattle.coverage_check.proofs.KeptLemmas.{Contains-cases}

-- ---- filters
pub in_filter : {X : Type 0} (p : X → Bool) (x : X) (xs : List X) → Contains xs x → p x ≡ true → Contains (filter p xs) x
in_filter p x [] c h = absurd (omega (arith, c.1))
in_filter {X} p x (y ∷ ys) c h = go (p y) refl (Contains-cases y x ys c) (λ d. in_filter p x ys d h)
  where
    go : (b : Bool) → p y ≡ b → (y ≡ x) ⊎ Contains ys x → (Contains ys x → Contains (filter p ys) x) → Contains (cond b (y ∷ filter p ys) (filter p ys)) x
    go true e (inl q) rest = (0, omega arith, q)
    go true e (inr d) rest = Contains-later y x (filter p ys) (rest d)
    go false e (inl q) rest = absurd (true≢false (sym h ∙ ap p (sym q) ∙ e))
    go false e (inr d) rest = rest d

pub from_filter : {X : Type 0} (p : X → Bool) (x : X) (xs : List X) → Contains (filter p xs) x → Contains xs x × (p x ≡ true)
from_filter p x [] c = absurd (omega (arith, c.1))
from_filter {X} p x (y ∷ ys) c = go (p y) refl c (λ d. from_filter p x ys d)
  where
    go : (b : Bool) → p y ≡ b → Contains (cond b (y ∷ filter p ys) (filter p ys)) x → (Contains (filter p ys) x → Contains ys x × (p x ≡ true)) → Contains (y ∷ ys) x × (p x ≡ true)
    go true e d rest = elim (Contains-cases y x (filter p ys) d) [
      | inl q ↦ ((0, omega arith, q), ap p (sym q) ∙ e)
      | inr f ↦ (let r = rest f in (Contains-later y x ys r.0, r.1))
    ]
    go false e d rest = (let r = rest d in (Contains-later y x ys r.0, r.1))

pub rising-filter : (p : Edge → Bool) (es : List Edge) → IsRisingEdges es → IsRisingEdges (filter p es)
rising-filter p [] r = tt
rising-filter p (e ∷ es) r = go (p e) (All-filter p (λ f. IsTrue (is_edge_below e f)) es r.0) (rising-filter p es r.1)
  where
    go : (b : Bool) → All (λ f. IsTrue (is_edge_below e f)) (filter p es) → IsRisingEdges (filter p es) → IsRisingEdges (cond b (e ∷ filter p es) (filter p es))
    go true a s = (a, s)
    go false a s = s

pub rising_from : (bs : List Border) → AreRisingBorders bs → IsRisingEdges (map (λ b. b.edge) bs)
rising_from [] r = tt
rising_from (b ∷ bs) r = (
  (λ k d l. (let m : k < length bs = omega (arith, length-map bs (λ (c : Border). c.edge)) in
      subst (λ (e : Edge). IsTrue (is_edge_below b.edge e)) (sym (get_or-map (λ (c : Border). c.edge) bs k b d m)) (r 0 (suc k) b (omega arith) (omega arith)))),
  rising_from bs (λ i j d l m. r (suc i) (suc j) d (omega arith) (omega arith)),
)

-- ---- level edges are never crossed or reached
steep : Edge → Bool
steep e = int_lt e.low.y e.high.y

steep_true : (e : Edge) → e.low.y <ℤ e.high.y → steep e ≡ true
unfolding steep
steep_true e h = plain e.low.y e.high.y h
  where
    plain : (x y : ℤ) → x <ℤ y → int_lt x y ≡ true
    plain x y h = grind (arith, ints)

steep_from : (e : Edge) → steep e ≡ true → e.low.y <ℤ e.high.y
unfolding steep
steep_from e h = plain e.low.y e.high.y h
  where
    plain : (x y : ℤ) → int_lt x y ≡ true → x <ℤ y
    plain x y h = grind (arith, ints)

climbs_between : (low high y m : ℤ) → pos 0 <ℤ m → (low *ℤ m) ≤ℤ y → y <ℤ (high *ℤ m) → low <ℤ high
climbs_between low high y m r a b = elim (either_way high low) [
  | inr l ↦ l
  | inl l ↦ (let w = le-mul m high low (omega (arith, lin)) l in absurd (omega (arith, lin, *ℤ_comm m high, *ℤ_comm m low)))
]

pub crossed_steep : (e : Edge) (s : Spot) → pos 0 <ℤ s.m → is_crossed e s ≡ true → e.low.y <ℤ e.high.y
crossed_steep e s r h = let p = test_range (e.low.y *ℤ s.m) s.y (e.high.y *ℤ s.m) (side_of e s) h in climbs_between e.low.y e.high.y s.y s.m r p.0 p.1

pub reached_steep : (e : Edge) (y m : ℤ) → pos 0 <ℤ m → is_reached y m e ≡ true → e.low.y <ℤ e.high.y
reached_steep e y m r h = let p = reach_parts (e.low.y *ℤ m) y (e.high.y *ℤ m) h in climbs_between e.low.y e.high.y y m r p.0 p.1

-- ---- the lists of one coverage
pub record AreListed (odds : List (List Edge)) (us : List Use) (es : List Edge) (bs : List Border) (hs : List ℤ) : Type 0 where
  pub uses : AreUsesOf odds us
  pub edges : AreEdgesOf us es
  pub borders : AreBordersOf us bs
  pub heights_rise : IsRising hs
  pub heights : (y : ℤ) → Contains hs y ↔ Contains (end_heights_of es) y
  pub planar : IsPlanar es
  pub rising : (a : ℕ) → IsRisingEdges (odd_of odds a)
  pub closed : (a : ℕ) → IsClosed (odd_of odds a)

pub odd_edge : (odds : List (List Edge)) (us : List Use) (es : List Edge) → AreUsesOf odds us → AreEdgesOf us es → (a : ℕ) (e : Edge) → IsOddIn odds a e → Contains es e
odd_edge odds us es u l a e c = l.complete a e ((u.exact a e).1 c)

pub edge_odd : (odds : List (List Edge)) (us : List Use) (es : List Edge) → AreUsesOf odds us → AreEdgesOf us es → (e : Edge) → Contains es e → IsOddSomewhere odds e
edge_odd odds us es u l e c = let w = l.used e c in (w.0, (u.exact w.0 e).0 w.1)

border_edge : (odds : List (List Edge)) (us : List Use) (es : List Edge) (bs : List Border) (hs : List ℤ) → AreListed odds us es bs hs → (b : Border) → Contains bs b → Contains es b.edge
border_edge odds us es bs hs l b c = l.edges.complete b.first b.edge (l.borders.told b b.first c (or_left (eqb b.first b.first) (is_this b.first b.second) (eq-eqb b.first b.first refl)))

-- the edges of an area's borders are its odd edges that are not level
of_area : (odds : List (List Edge)) (us : List Use) (es : List Edge) (bs : List Border) (hs : List ℤ) → AreListed odds us es bs hs → (a : ℕ) → filter steep (odd_of odds a) ≡ odds_in bs a
of_area odds us es bs hs l a = rising_unique (filter steep (odd_of odds a)) (odds_in bs a) (rising-filter steep (odd_of odds a) (l.rising a)) (rising_from (filter (λ b. is_of a b) bs) (AllPairs-filter (λ (b c : Border). IsTrue (is_edge_below b.edge c.edge)) (λ b. is_of a b) bs l.borders.in_order))
    (λ e c. (let f = from_filter steep e (odd_of odds a) c in
    let b = l.borders.complete a e ((l.uses.exact a e).1 f.0) (steep_from e f.1) in
    let m = in_filter (λ b. is_of a b) b.0 bs b.1.0 b.1.1.1 in
    subst (λ (g : Edge). Contains (odds_in bs a) g) (ap (λ (c : Border). c.edge) m.2 ∙ b.1.1.0) (Contains-map (λ (b : Border). b.edge) (filter (λ b. is_of a b) bs) m.0 b.0 m.1)))
    (λ e c. (let f = from_map (λ (b : Border). b.edge) (filter (λ b. is_of a b) bs) e c in
    let m = from_filter (λ b. is_of a b) f.0 bs f.1.0 in
    let used = l.borders.told f.0 a m.0 m.1 in
    subst (λ (g : Edge). Contains (filter steep (odd_of odds a)) g) f.1.1 (in_filter steep f.0.edge (odd_of odds a) ((l.uses.exact a f.0.edge).0 used) (steep_true f.0.edge f.0.steep))))

and_only : (a b : Bool) → (b ≡ true → a ≡ true) → (a && b) ≡ b
and_only true b h = refl
and_only false true h = absurd (true≢false (sym (h refl)))
and_only false false h = refl

pub counts_alike : (odds : List (List Edge)) (us : List Use) (es : List Edge) (bs : List Border) (hs : List ℤ) → AreListed odds us es bs hs → (a : ℕ) (p : Edge → Bool) → ((e : Edge) → p e ≡ true → e.low.y <ℤ e.high.y) → count_by p (odds_in bs a) ≡ count_by p (odd_of odds a)
counts_alike odds us es bs hs l a p only =
    ap (λ (xs : List Edge). count_by p xs) (sym (of_area odds us es bs hs l a)) ∙ count-filter p steep (odd_of odds a)
    ∙ count_same (λ e. steep e && p e) p (odd_of odds a) (λ k d m. and_only (steep (get_or (odd_of odds a) k d)) (p (get_or (odd_of odds a) k d)) (λ h. steep_true (get_or (odd_of odds a) k d) (only (get_or (odd_of odds a) k d) h)))

pub inside_alike : (odds : List (List Edge)) (us : List Use) (es : List Edge) (bs : List Border) (hs : List ℤ) → AreListed odds us es bs hs → (a : ℕ) (s : Spot) → pos 0 <ℤ s.m → IsInside (odds_in bs a) s ↔ IsInside (odd_of odds a) s
inside_alike odds us es bs hs l a s r =
    let e = ap (λ n. n % 2) (counts_alike odds us es bs hs l a (λ e. is_crossed e s) (λ e h. crossed_steep e s r h)) in
    ((λ h. sym e ∙ h), (λ h. e ∙ h))

-- ---- heights
end_heights_in : (es : List Edge) (e : Edge) → Contains es e → Contains (end_heights_of es) e.low.y × Contains (end_heights_of es) e.high.y
end_heights_in [] e c = absurd (omega (arith, c.1))
end_heights_in (f ∷ es) e c = go (Contains-cases f e es c) (λ d. end_heights_in es e d)
  where
    go : (f ≡ e) ⊎ Contains es e → (Contains es e → Contains (end_heights_of es) e.low.y × Contains (end_heights_of es) e.high.y) → Contains (end_heights_of (f ∷ es)) e.low.y × Contains (end_heights_of (f ∷ es)) e.high.y
    go (inl q) rest = ((0, omega arith, ap (λ (g : Edge). g.low.y) q), (1, omega arith, ap (λ (g : Edge). g.high.y) q))
    go (inr d) rest = (let r = rest d in (Contains-append_right (f.low.y ∷ f.high.y ∷ []) (end_heights_of es) e.low.y r.0, Contains-append_right (f.low.y ∷ f.high.y ∷ []) (end_heights_of es) e.high.y r.1))

pub end_height_of : (es : List Edge) (y : ℤ) → Contains (end_heights_of es) y → (e : Edge) × (Contains es e × ((e.low.y ≡ y) ⊎ (e.high.y ≡ y)))
end_height_of [] y c = absurd (omega (arith, c.1))
end_height_of (f ∷ es) y c = go (Contains-append_cases (f.low.y ∷ f.high.y ∷ []) (end_heights_of es) y c) (λ d. end_height_of es y d)
  where
    one : Contains (f.low.y ∷ f.high.y ∷ []) y → (f.low.y ≡ y) ⊎ (f.high.y ≡ y)
    one c = elim (Contains-cases f.low.y y (f.high.y ∷ []) c) [
      | inl q ↦ inl q
      | inr d ↦ elim (Contains-cases f.high.y y [] d) [ inl q ↦ inr q | inr n ↦ absurd (omega (arith, n.1)) ]
    ]

    go : Contains (f.low.y ∷ f.high.y ∷ []) y ⊎ Contains (end_heights_of es) y → (Contains (end_heights_of es) y → (e : Edge) × (Contains es e × ((e.low.y ≡ y) ⊎ (e.high.y ≡ y)))) → (e : Edge) × (Contains (f ∷ es) e × ((e.low.y ≡ y) ⊎ (e.high.y ≡ y)))
    go (inl d) rest = (f, ((0, omega arith, refl), one d))
    go (inr d) rest = (let r = rest d in (r.0, (Contains-later f r.0 es r.1.0, r.1.1)))

pub ends_at : (es : List Edge) (hs : List ℤ) → ((y : ℤ) → Contains hs y ↔ Contains (end_heights_of es) y) → (e : Edge) → Contains es e → EndsAt hs e
ends_at es hs h e c = let p = end_heights_in es e c in ((h e.low.y).1 p.0, (h e.high.y).1 p.1)

pub height_in : (odds : List (List Edge)) (us : List Use) (es : List Edge) (bs : List Border) (hs : List ℤ) → AreListed odds us es bs hs → (y : ℤ) → IsHeight odds y → Contains hs y
height_in odds us es bs hs l y h =
    let p = end_heights_in es h.0 (odd_edge odds us es l.uses l.edges h.1.0.0 h.0 h.1.0.1) in
    (l.heights y).1 (elim h.1.1 [
      | inl q ↦ subst (λ z. Contains (end_heights_of es) z) q p.0
      | inr q ↦ subst (λ z. Contains (end_heights_of es) z) q p.1
    ])

pub height_of : (odds : List (List Edge)) (us : List Use) (es : List Edge) (bs : List Border) (hs : List ℤ) → AreListed odds us es bs hs → (y : ℤ) → Contains hs y → IsHeight odds y
height_of odds us es bs hs l y c =
    let e = end_height_of es y ((l.heights y).0 c) in
    (e.0, (edge_odd odds us es l.uses l.edges e.0 e.1.0, e.1.1))

-- heights are coordinates
pub heights_in_range : (es : List Edge) (hs : List ℤ) → ((y : ℤ) → Contains hs y ↔ Contains (end_heights_of es) y) → All IsCoordinate hs
heights_in_range es hs h = λ k d l.
    let c = Contains-get_or hs k d l in
    let e = end_height_of es (get_or hs k d) ((h (get_or hs k d)).0 c) in
    elim e.1.1 [
      | inl q ↦ subst IsCoordinate q e.0.low.y_in_range
      | inr q ↦ subst IsCoordinate q e.0.high.y_in_range
    ]

pub laid_out : (odds : List (List Edge)) (us : List Use) (es : List Edge) (bs : List Border) (hs : List ℤ) → AreListed odds us es bs hs → AreLaidOut hs bs
laid_out odds us es bs hs l = record {
  heights_rise = l.heights_rise;
  ends = λ k d m. ends_at es hs l.heights (get_or bs k d).edge (border_edge odds us es bs hs l (get_or bs k d) (Contains-get_or bs k d m));
  in_order = l.borders.in_order;
  planar = λ e f c d n s. l.planar e f (held e c) (held f d) n s;
  closed = λ a y m r. ap (λ n. n % 2) (counts_alike odds us es bs hs l a (λ e. is_reached y m e) (λ e h. reached_steep e y m r h)) ∙ l.closed a y m r;
}
  where
    held : (e : Edge) → Contains (map (λ b. b.edge) bs) e → Contains es e
    held e c = (let f = from_map (λ (b : Border). b.edge) bs e c in subst (λ (g : Edge). Contains es g) f.1.1 (border_edge odds us es bs hs l f.0 f.1.0))
