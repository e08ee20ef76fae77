-- The borders across a strip are just those that decide what is inside in it.
use Rattle.std.proofs.Common.{◌≡◌, ◌≢◌, ℕ, ◌+◌, ◌<◌, ◌≤◌, inl, inr, refl, sym, ◌∙◌, ap, subst, arith, Bool, true, false, true≢false, ◌&&◌, ◌||◌, not, cond, int_lt, int_le, List, length, get_or, take, drop, map, All, Contains, count_by, ℤ, pos, ◌+ℤ◌, ◌≤ℤ◌, ◌<ℤ◌}
use Rattle.std.specs.List.{AllPairs, filter}
use Rattle.std.proofs.lemmas.Int.{ints}
use Rattle.std.proofs.lemmas.Bool.{cases_lt, or_cases, and_parts}
use Rattle.std.proofs.lemmas.List.{get_or-take, get_or-drop, length-take-le, length-drop, get_or_default}
use Rattle.std.proofs.lemmas.List.Elements.{All-map, All-filter, Contains-get_or}
use Rattle.std.proofs.lemmas.List.Sums.{sum_by-take-drop, sum_by-le-sum_by}
use Rattle.std.proofs.lemmas.List.Sorted.{sorted_far}
use Rattle.plane_edge.specs.declared.edge.Edge.{Edge}
use Rattle.plane_edge.specs.Edges.{is_edge_below, is_same_edge, is_same_point, IsClosed}
use Rattle.plane_edge.specs.Order.{is_below}
use Rattle.std.specs.Ordering.{int_eq}
use Rattle.plane_edge.proofs.OrderLemmas.{same_edges_equal, equal_edges_same, same_edge_itself, edge_below-differ}
use Rattle.plane_strip.specs.Strip.{IsPlanar, NoEndBetween, Spans, lead}
use Rattle.plane_strip.proofs.StripLemmas.{lead-swap, apart}
use Rattle.plane_strip.proofs.MidLemmas.{mid_strip, mid_strict, from_lt_false}
use Rattle.whole_ring.proofs.Signs.{lin, sign, none, above, below}
use Rattle.coverage_check.specs.declared.border.Border.{Border}
use Rattle.coverage_check.specs.Walk.{is_of, odds_in}
use Rattle.coverage_check.specs.Active.{AreRisingBorders, is_up_to, is_left_of, IsAcross}
use Rattle.coverage_check.proofs.Counts.{count_same, count_none, count-map, count-filter, none_counted, some_counted, counted, counted_in, counted_twice, count_one, Contains-map, from_map}
use Rattle.coverage_check.proofs.ActiveLemmas.{left_order}
use Rattle.coverage_check.proofs.StripCover.{IsStrip}

-- what is known of all borders and of one strip
pub record Sets (bs : List Border) (n : ℕ) (h k : ℤ) (active : List Border) : Type 0 where
  pub rising : h <ℤ k
  pub in_order : AreRisingBorders bs
  pub ends : All (λ b. NoEndBetween h k b.edge) bs
  pub planar : IsPlanar (map (λ b. b.edge) bs)
  pub closed : (a : ℕ) → IsClosed (odds_in bs a)
  pub across : IsAcross bs n h k active

-- ---- tests
does_span : ℤ → ℤ → Border → Bool
does_span h k b = int_le b.edge.low.y h && int_le k b.edge.high.y

spans_from : (h k : ℤ) (b : Border) → not (does_span h k b) ≡ false → Spans h k b.edge
unfolding does_span
spans_from h k b e = let p = parts b.edge.low.y h k b.edge.high.y e in record { low = p.0; high = p.1 }
  where
    parts : (x h k z : ℤ) → not (int_le x h && int_le k z) ≡ false → (x ≤ℤ h) × (k ≤ℤ z)
    parts x h k z e = grind (arith, ints)

up_and_not : (h k : ℤ) (b : Border) → b.edge.low.y ≤ℤ h → (is_up_to k b && not (does_span h k b)) ≡ false
unfolding does_span
up_and_not h k b l = plain b.edge.low.y h k b.edge.high.y l
  where
    plain : (x h k z : ℤ) → x ≤ℤ h → (int_le k z && not (int_le x h && int_le k z)) ≡ false
    plain x h k z l = grind (arith, ints)

up_to : (k : ℤ) (b : Border) → k ≤ℤ b.edge.high.y → is_up_to k b ≡ true
up_to k b l = go k b.edge.high.y l
  where
    go : (x y : ℤ) → x ≤ℤ y → int_le x y ≡ true
    go x y l = grind (arith, ints)

off : (b : Bool) → ¬ (b ≡ true) → b ≡ false
off true f = absurd (f refl)
off false f = refl

and_second : (a b : Bool) → (a && b) ≡ true → b ≡ true
and_second true b h = h
and_second false b h = absurd (true≢false (sym h))

same_and : (a b : Bool) → (b ≡ true → a ≡ true) → b ≡ (a && b)
same_and true b h = refl
same_and false true h = absurd (true≢false (sym (h refl)))
same_and false false h = refl

-- ---- rising borders begin ever higher
lower_point : (a b c d : ℤ) → (int_lt b d || (int_le b d && int_lt a c)) ≡ true → b ≤ℤ d
lower_point a b c d h = grind (arith, ints)

same_height : (a b c d : ℤ) → (int_eq a c && int_eq b d) ≡ true → b ≤ℤ d
same_height a b c d h = grind (arith, ints)

pub begins_lower : (e f : Edge) → is_edge_below e f ≡ true → e.low.y ≤ℤ f.low.y
begins_lower e f h = elim (or_cases (is_below e.low f.low) (is_same_point e.low f.low && is_below e.high f.high) h) [
  | inl l ↦ lower_point e.low.x e.low.y f.low.x f.low.y l
  | inr r ↦ same_height e.low.x e.low.y f.low.x f.low.y (and_parts (is_same_point e.low f.low) (is_below e.high f.high) r).0
]

later_above : (bs : List Border) (n : ℕ) (h : ℤ) → AreRisingBorders bs → ((d : Border) → n < length bs → h <ℤ (get_or bs n d).edge.low.y) → (i : ℕ) (d : Border) → n ≤ i → i < length bs → h <ℤ (get_or bs i d).edge.low.y
later_above bs n h order next i d l m = elim (cases_lt n i) [
  | inr e ↦ (let same : n ≡ i = omega arith in subst (λ j. h <ℤ (get_or bs j d).edge.low.y) same (next d (omega arith)))
  | inl lt ↦ (let a = next d (omega arith) in let b = begins_lower (get_or bs n d).edge (get_or bs i d).edge (order n i d lt m) in omega (arith, lin))
]

-- ---- each test that only borders of the strip pass counts as many of all as of the active ones
passes_alike : (bs : List Border) (n : ℕ) (h k : ℤ) (active : List Border) (s : Sets bs n h k active) (p : Border → Bool) → ((b : Border) → Contains bs b → p b ≡ true → Spans h k b.edge) → count_by p bs ≡ count_by p active
passes_alike bs n h k active s p only =
    let held = s.across.held p in
    let front : count_by p (take n bs) ≡ count_by (λ b. is_up_to k b && p b) (take n bs) = count_same p (λ b. is_up_to k b && p b) (take n bs) (λ i d l.
    (let m : i < n = omega (arith, length-take-le n bs s.across.within) in
    let e = get_or-take n bs i d m in
    subst (λ (b : Border). p b ≡ (is_up_to k b && p b)) (sym e)
    (same_and (is_up_to k (get_or bs i d)) (p (get_or bs i d)) (λ t. up_to k (get_or bs i d) (only (get_or bs i d) (Contains-get_or bs i d (omega (arith, s.across.within))) t).high)))) in
    let back : count_by p (drop n bs) ≡ 0 = count_none p (drop n bs) (λ i d l.
    (let m : n + i < length bs = omega (arith, length-drop n bs) in
    let e = get_or-drop n bs i d in
    let higher = later_above bs n h s.in_order s.across.next_above (n + i) d (omega arith) m in
    subst (λ (b : Border). p b ≡ false) (sym e) (off (p (get_or bs (n + i) d)) (λ t. (let q = only (get_or bs (n + i) d) (Contains-get_or bs (n + i) d m) t in omega (arith, lin, q.low, higher)))))) in
    let all = sum_by-take-drop (λ b. cond (p b) 1 0) bs n in
    omega (arith, held, front, back, all)

span_all : (bs : List Border) (n : ℕ) (h k : ℤ) (active : List Border) (s : Sets bs n h k active) → All (λ b. Spans h k b.edge) active
span_all bs n h k active s =
    let zero_front : count_by (λ b. is_up_to k b && not (does_span h k b)) (take n bs) ≡ 0 = count_none (λ b. is_up_to k b && not (does_span h k b)) (take n bs) (λ i d l.
    (let m : i < n = omega (arith, length-take-le n bs s.across.within) in
    let e = get_or-take n bs i d m in
    subst (λ (b : Border). (is_up_to k b && not (does_span h k b)) ≡ false) (sym e) (up_and_not h k (get_or bs i d) (s.across.begun i d m)))) in
    let none_other = none_counted (λ b. not (does_span h k b)) active (s.across.held (λ b. not (does_span h k b)) ∙ zero_front) in
    λ i d l. spans_from h k (get_or active i d) (none_other i d l)

-- the edge of an active border is one of all
edge_held : (bs : List Border) (n : ℕ) (h k : ℤ) (active : List Border) (s : Sets bs n h k active) (i : ℕ) (d : Border) → i < length active → Contains (map (λ b. b.edge) bs) (get_or active i d).edge
edge_held bs n h k active s i d l =
    let e = (get_or active i d).edge in
    let q : Border → Bool = λ b. is_same_edge e b.edge in
    let here = counted q active i d l (same_edge_itself e) in
    let there = some_counted (λ b. is_up_to k b && q b) (take n bs) (omega (arith, here, s.across.held q)) in
    let b = there.0 in
    let c = there.1.0 in
    let same = same_edges_equal e b.edge (and_second (is_up_to k b) (q b) there.1.1) in
    let lt : c.0 < n = omega (arith, c.1, length-take-le n bs s.across.within) in
    let at : get_or bs c.0 b ≡ b = sym (get_or-take n bs c.0 b lt) ∙ c.2 in
    subst (λ (f : Edge). Contains (map (λ (b : Border). b.edge) bs) f) (ap (λ (b : Border). b.edge) at ∙ sym same) (Contains-map (λ (b : Border). b.edge) bs c.0 b (omega (arith, s.across.within)))

-- no two active borders have one edge
all_differ : (bs : List Border) (n : ℕ) (h k : ℤ) (active : List Border) (s : Sets bs n h k active) (i j : ℕ) (d : Border) → i < j → j < length active → (get_or active j d).edge ≢ (get_or active i d).edge
all_differ bs n h k active s i j d l m = λ same.
    let e = (get_or active i d).edge in
    let q : Border → Bool = λ b. is_same_edge e b.edge in
    let two = counted_twice q active i j d l m (same_edge_itself e) (equal_edges_same e (get_or active j d).edge (sym same)) in
    let once : count_by q bs ≤ 1 = count_one q bs (λ a b c lt len u v. edge_below-differ (get_or bs a c).edge (get_or bs b c).edge (s.in_order a b c lt len) (sym (same_edges_equal e (get_or bs a c).edge u) ∙ same_edges_equal e (get_or bs b c).edge v)) in
    let part = sum_by-take-drop (λ b. cond (q b) 1 0) bs n in
    let less : count_by (λ b. is_up_to k b && q b) (take n bs) ≤ count_by q (take n bs) = fewer (λ b. is_up_to k b) q (take n bs) in
    omega (arith, two, once, part, less, s.across.held q)
  where
    fewer : (p q : Border → Bool) (xs : List Border) → count_by (λ b. p b && q b) xs ≤ count_by q xs
    fewer p q xs = sum_by-le-sum_by (λ b. cond (p b && q b) 1 0) (λ b. cond (q b) 1 0) xs (λ b. and_less (p b) (q b))
      where
        and_less : (a b : Bool) → cond (a && b) 1 0 ≤ cond b 1 0
        and_less true b = omega arith
        and_less false true = omega arith
        and_less false false = omega arith

strictly : (bs : List Border) (n : ℕ) (h k : ℤ) (active : List Border) (s : Sets bs n h k active) → AllPairs (λ b c. pos 0 <ℤ lead c.edge b.edge (h +ℤ k) (pos 2)) active
strictly bs n h k active s = λ i j d l m.
    let e = (get_or active i d).edge in
    let f = (get_or active j d).edge in
    let far = from_lt_false (pos 0) (lead e f (h +ℤ k) (pos 2)) (sorted_far (is_left_of (h +ℤ k)) (left_order (h +ℤ k)) active s.across.sorted i j d (omega arith) m) in
    let w = lead-swap e f (h +ℤ k) (pos 2) in
    let me = edge_held bs n h k active s i d (omega arith) in
    let mf = edge_held bs n h k active s j d m in
    let free = apart h k f e (h +ℤ k) (pos 2) s.rising (s.planar f e mf me (all_differ bs n h k active s i j d l m)) (span_all bs n h k active s j d m) (span_all bs n h k active s i d (omega arith)) (mid_strip h k s.rising) (mid_strict h k s.rising) in
    elim (sign (lead f e (h +ℤ k) (pos 2))) [
      | above u ↦ u
      | none u ↦ absurd (free u)
      | below u ↦ absurd (omega (arith, lin))
    ]

pub strip_from : (bs : List Border) (n : ℕ) (h k : ℤ) (active : List Border) → Sets bs n h k active → IsStrip h k (map (λ b. b.edge) bs) (odds_in bs) active
strip_from bs n h k active s = record {
  rising = s.rising;
  planar = s.planar;
  ends = All-map (NoEndBetween h k) (λ (b : Border). b.edge) bs s.ends;
  held = λ a. All-map (Contains es) (λ (b : Border). b.edge) (filter (λ b. is_of a b) bs) (All-filter (λ b. is_of a b) (λ b. Contains es b.edge) bs (λ i d l. Contains-map (λ (b : Border). b.edge) bs i d l));
  closed = s.closed;
  spans_all = span_all bs n h k active s;
  sorted = strictly bs n h k active s;
  counts = λ a p only.
      (let one = count-map p (λ (b : Border). b.edge) (filter (λ b. is_of a b) bs) in
      let two = count-filter (λ b. p b.edge) (λ b. is_of a b) bs in
      let three = passes_alike bs n h k active s (λ b. is_of a b && p b.edge) (λ b c t. only b.edge (edge_of b c) (and_second (is_of a b) (p b.edge) t)) in
      one ∙ two ∙ three);
  complete = λ e c q.
      (let f = from_map (λ (b : Border). b.edge) bs e c in
      let b = f.0 in
      let same = f.1.1 in
      let here = counted_in (λ b. is_same_edge e b.edge) bs b f.1.0 (equal_edges_same e b.edge (sym same)) in
      let there = passes_alike bs n h k active s (λ b. is_same_edge e b.edge) (λ g m t. subst (Spans h k) (same_edges_equal e g.edge t) q) in
      let found = some_counted (λ b. is_same_edge e b.edge) active (omega (arith, here, there)) in
      let at = found.1.0 in
      (at.0, (at.1, λ d. ap (λ (b : Border). b.edge) (get_or_default active at.0 d found.0 at.1 ∙ at.2) ∙ sym (same_edges_equal e found.0.edge found.1.1))));
}
  where
    es : List Edge
    es = map (λ b. b.edge) bs

    edge_of : (b : Border) → Contains bs b → Contains (map (λ b. b.edge) bs) b.edge
    edge_of b c = subst (λ (g : Border). Contains (map (λ (b : Border). b.edge) bs) g.edge) c.2 (Contains-map (λ (b : Border). b.edge) bs c.0 b c.1)
