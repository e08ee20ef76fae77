-- Walks that have the region on their left.
use Rattle.std.proofs.Common.{◌≡◌, ◌≢◌, ◌⊎◌, ◌↔◌, inl, inr, ℕ, zero, suc, ◌+◌, ◌-◌, ◌%◌, ◌<◌, ◌≤◌, refl, sym, ◌∙◌, ap, subst, arith, Bool, true, false, true≢false, ◌&&◌, ◌||◌, if◌then◌else◌, nat_lt, IsTrue, cond, Option, Some, None, IfSome, IfNone, List, [], ◌∷◌, ◌++◌, length, take, drop, map, All, Contains, count_by, get_or, set, replicate, slice_index}
use Rattle.std.proofs.lemmas.List.{length-take, length-take-le, length-drop, get_or-take, get_or-drop, get_or_append_left, get_or_push, length_push, get_or_default, get_or-map}
use Rattle.std.proofs.lemmas.Bool.Decides.{nat_tests}
use Rattle.std.proofs.lemmas.List.Elements.{All-nil, All-push}
use Rattle.plane_edge.specs.declared.edge.Edge.{Edge}
use Rattle.plane_edge.specs.declared.point.Point.{Point}
use Rattle.plane_edge.specs.Edges.{is_same_point}
use Rattle.plane_edge.specs.Line.{is_end_of}
use Rattle.plane_edge.proofs.EndLemmas.{not_both}
use Rattle.plane_edge.proofs.OddLemmas.{contains_first, contains_later, contains_none, contains_cases}
use Rattle.plane_edge.proofs.OrderLemmas.{same_points_equal, same_point_itself}
use Rattle.edge_sides.specs.Sides.{is_leftward, start_of, finish_of}
use Rattle.edge_sides.specs.Laws.{AreBalanced, AreLeft, HasExit}
use Rattle.edge_sides.proofs.Onward.{at_rest, anew, onward, exit}
use Rattle.edge_sides.proofs.SideTests.{sides_are}
use Rattle.region_rings.specs.declared.way.Way.{Way}
use Rattle.region_rings.specs.RegionRings.{IsLeftStep, IsLeftRing}
use Rattle.region_rings.specs.Sides.{AreSides}
use Rattle.region_rings.specs.LeftWalks.{IsLeftCourse, IsLeftAtRest}
use Rattle.region_rings.specs.Spokes.{IsEndAt}
use Rattle.region_rings.specs.Turning.{aim, is_first_by}
use Rattle.region_rings.specs.Ways.{other_end_of, way_at, tail_of, is_from, is_taken_before}
use Rattle.region_rings.specs.Walks.{Walk, along, beginning, onto, cut_at, is_visited, reaching, edges_left, IsOpenAt, IsNoneOpenAt, IsTakenFirst}
use Rattle.region_rings.proofs.MarkLemmas.{count-walked, edges_left-none}

-- ---- the edges left
pub left_at : (es : List Edge) (ms : List Bool) (i : ℕ) (d : Edge) → i < length es → get_or ms i true ≡ false → Contains (edges_left es ms) (get_or es i d)
left_at [] ms i d l h = absurd (omega arith)
left_at (e ∷ es) [] i d l h = absurd (true≢false h)
left_at (e ∷ es) (true ∷ ms) zero d l h = absurd (true≢false h)
left_at (e ∷ es) (false ∷ ms) zero d l h = contains_first e (edges_left es ms)
left_at (e ∷ es) (true ∷ ms) (suc i) d l h = left_at es ms i d (omega arith) h
left_at (e ∷ es) (false ∷ ms) (suc i) d l h = contains_later (get_or es i d) e (edges_left es ms) (left_at es ms i d (omega arith) h)

-- an edge that is left, by its number
record Numbered (es : List Edge) (ms : List Bool) (e : Edge) : Type 0 where
  i : ℕ
  within : i < length es
  is : get_or es i e ≡ e
  left : get_or ms i true ≡ false

left_by : (es : List Edge) (ms : List Bool) (e : Edge) → length ms ≡ length es → Contains (edges_left es ms) e → Numbered es ms e
left_by [] ms e l c = absurd (contains_none e c)
left_by (f ∷ es) [] e l c = absurd (omega arith)
left_by (f ∷ es) (true ∷ ms) e l c = let r = left_by es ms e (omega arith) c in record { i = suc r.i; within = omega (arith, r.within); is = r.is; left = r.left }
left_by (f ∷ es) (false ∷ ms) e l c = elim (contains_cases e f (edges_left es ms) c) [
  | inl q ↦ record { i = 0; within = omega arith; is = q; left = refl }
  | inr d ↦ (let r = left_by es ms e (omega arith) d in record { i = suc r.i; within = omega (arith, r.within); is = r.is; left = r.left })
]

-- ---- how walks begin and end
pub left_begun : (edges : List Edge) (w : Walk) (at : Point) (n : ℕ) → IsLeftAtRest edges w → IsLeftCourse edges (beginning at n w) at at
left_begun edges w at n r = record { path = λ k d l. absurd (omega arith); rings = r.rings; left = r.left at }

pub left_done : (edges : List Edge) (w : Walk) (start at : Point) → IsLeftCourse edges w start at → start ≡ at → IsLeftAtRest edges w
left_done edges w start at h q = record {
  rings = h.rings;
  left = λ p. anew edges (edges_left edges w.walked) at p (subst (λ (s : Point). AreLeft edges s at (edges_left edges w.walked)) q h.left);
}

pub left_before : (edges : List Edge) (w : Walk) (n : ℕ) → AreBalanced edges → w ≡ record { walked = replicate (length edges) false; path = []; places = replicate n 0; rings = [] } → IsLeftAtRest edges w
left_before edges w n b q =
    let none : edges_left edges w.walked ≡ edges = ap (λ (v : Walk). edges_left edges v.walked) q ∙ edges_left-none edges in
    record {
      rings = subst (λ (v : Walk). All (IsLeftRing edges) v.rings) (sym q) (All-nil (IsLeftRing edges));
      left = λ t. subst (λ (left : List Edge). AreLeft edges t t left) (sym none) (at_rest edges t b);
    }

-- ---- the finish of an edge is the other end than its start
ends_apart : (e : Edge) → is_same_point e.low e.high ≡ false
ends_apart e = go (is_same_point e.low e.high) refl
  where
    go : (b : Bool) → is_same_point e.low e.high ≡ b → b ≡ false
    go true h = absurd (not_both e e.high h (same_point_itself e.high))
    go false h = refl

pub finish_is : (edges : List Edge) (e : Edge) → finish_of edges e ≡ other_end_of e (start_of edges e)
finish_is edges e = go (is_leftward edges e)
  where
    go : (b : Bool) → (if b then e.high else e.low) ≡ other_end_of e (if b then e.low else e.high)
    go true = sym (ap (λ b. if b then e.high else e.low) (same_point_itself e.low))
    go false = sym (ap (λ b. if b then e.high else e.low) (ends_apart e))

-- ---- along an edge
visited_parts : (k n : ℕ) (b : Bool) → (nat_lt k n && b) ≡ true → (k < n) × (b ≡ true)
visited_parts k n b h = grind (arith, nat_tests)

last_or : (k n : ℕ) → k + 1 < n + 1 → (k + 1 < n) ⊎ (k + 1 ≡ n)
last_or k n h = grind arith

next_inside : (k n : ℕ) → k + 1 < n → (k + 1) % n ≡ k + 1
next_inside k n h = grind arith

next_round : (k n : ℕ) → k + 1 ≡ n → (k + 1) % n ≡ 0
next_round k n h = grind arith

pub left_on : (edges : List Edge) (w : Walk) (start at to : Point) (n i : ℕ) (e : Edge) → IsLeftCourse edges w start at → 0 < length w.path → ((d : Point) → get_or w.path (length w.path - 1) d ≡ at) →
    IsOpenAt edges w i at → e ≡ get_or edges i e → start_of edges e ≡ at → to ≡ other_end_of e at → IsLeftCourse edges (reaching to n (along i w)) start to
left_on edges w start at to n i e h long last o is from q = go (is_visited to n w) refl
  where
    goes_to : finish_of edges e ≡ to
    goes_to = finish_is edges e ∙ ap (λ (p : Point). other_end_of e p) from ∙ sym q

    step : IsLeftStep edges at to
    step = (e, ((i, o.end.within, sym is), (from, goes_to)))

    left : AreLeft edges start to (edges_left edges (set w.walked i true))
    left =
        let less : (t : Edge → Bool) → count_by t (edges_left edges w.walked) ≡ cond (t e) 1 0 + count_by t (edges_left edges (set w.walked i true)) = λ t.
        count-walked t edges w.walked i e o.end.within (o.left true) ∙ ap (λ (g : Edge). cond (t g) 1 0 + count_by t (edges_left edges (set w.walked i true))) (sym is) in
        subst (λ (p : Point). AreLeft edges start p (edges_left edges (set w.walked i true))) goes_to
        (onward edges (edges_left edges w.walked) (edges_left edges (set w.walked i true)) start e (subst (λ (p : Point). AreLeft edges start p (edges_left edges w.walked)) (sym from) h.left) less)

    go : (b : Bool) → is_visited to n w ≡ b → IsLeftCourse edges (if b then cut_at (slice_index w.places n) (along i w) else onto to n (along i w)) start to
    go true v =
        let k = slice_index w.places n in
        let p = visited_parts k (length w.path) (is_same_point (get_or w.path k to) to) v in
        let there : get_or w.path k to ≡ to = same_points_equal (get_or w.path k to) to p.1 in
        let short = length-take-le (k + 1) w.path (omega (arith, p.0)) in
        let rest = length-drop k w.path in
        let ring : IsLeftRing edges (drop k w.path) = λ j d l. elim (last_or j (length (drop k w.path)) (omega arith)) [
          | inl m ↦ subst (λ (x : ℕ). IsLeftStep edges (get_or (drop k w.path) j d) (get_or (drop k w.path) x d)) (sym (next_inside j (length (drop k w.path)) m))
              (subst (λ (x : Point). IsLeftStep edges x (get_or (drop k w.path) (j + 1) d)) (sym (get_or-drop k w.path j d))
              (subst (λ (x : Point). IsLeftStep edges (get_or w.path (k + j) d) x) (sym (get_or-drop k w.path (j + 1) d ∙ ap (λ x. get_or w.path x d) (omega arith))) (h.path (k + j) d (omega arith))))
          | inr m ↦ subst (λ (x : ℕ). IsLeftStep edges (get_or (drop k w.path) j d) (get_or (drop k w.path) x d)) (sym (next_round j (length (drop k w.path)) m))
              (subst (λ (x : Point). IsLeftStep edges x (get_or (drop k w.path) 0 d)) (sym (get_or-drop k w.path j d ∙ ap (λ x. get_or w.path x d) (same_place k j (length w.path) (length (drop k w.path)) rest m long p.0) ∙ last d))
              (subst (λ (x : Point). IsLeftStep edges at x) (sym (get_or-drop k w.path 0 d ∙ ap (λ x. get_or w.path x d) (omega arith) ∙ get_or_default w.path k d to p.0 ∙ there)) step))
        ] in
        record {
          path = λ j d l. (
              let here : j + 1 < k + 1 = omega arith in
              subst (λ (x : Point). IsLeftStep edges x (get_or (take (k + 1) w.path) (j + 1) d)) (sym (get_or-take (k + 1) w.path j d (omega arith)))
              (subst (λ (x : Point). IsLeftStep edges (get_or w.path j d) x) (sym (get_or-take (k + 1) w.path (j + 1) d here)) (h.path j d (omega (arith, p.0)))));
          rings = All-push (IsLeftRing edges) w.rings (drop k w.path) h.rings ring;
          left = left;
        }
      where
        same_place : (k j m n : ℕ) → n ≡ m - k → j + 1 ≡ n → 0 < m → k < m → k + j ≡ m - 1
        same_place k j m n a b c d = omega arith
    go false v = record {
      path = λ j d l. elim (last_or j (length w.path) (omega (arith, length_push w.path to))) [
        | inl m ↦ subst (λ (x : Point). IsLeftStep edges x (get_or (w.path ++ to ∷ []) (j + 1) d)) (sym (get_or_append_left w.path (to ∷ []) d j (omega arith)))
            (subst (λ (x : Point). IsLeftStep edges (get_or w.path j d) x) (sym (get_or_append_left w.path (to ∷ []) d (j + 1) m)) (h.path j d m))
        | inr m ↦ subst (λ (x : Point). IsLeftStep edges x (get_or (w.path ++ to ∷ []) (j + 1) d)) (sym (get_or_append_left w.path (to ∷ []) d j (omega arith) ∙ ap (λ x. get_or w.path x d) (omega arith) ∙ last d))
            (subst (λ (x : Point). IsLeftStep edges at x) (sym (get_or_push w.path to d (j + 1) (sym m))) step)
      ];
      rings = h.rings;
      left = left;
    }

-- ---- the edge that is taken first leads away
first_alone : (a b r : Bool) → a ≡ true → is_first_by a b r ≡ false → b ≡ true
first_alone true true r h k = refl
first_alone true false r h k = absurd (true≢false k)
first_alone false b r h k = absurd (true≢false (sym h))

-- the way of an edge begins where the edge starts
tail_is : (edges : List Edge) (leftward : List Bool) (i : ℕ) (d : Way) → AreSides edges edges leftward → i < length edges → tail_of (way_at edges leftward i d) ≡ start_of edges (get_or edges i d.edge)
tail_is edges leftward i d s l =
    let side : get_or leftward i d.is_leftward ≡ is_leftward edges (get_or edges i d.edge) =
    ap (λ bs. get_or bs i d.is_leftward) (sides_are edges edges leftward s) ∙ get_or-map (λ e. is_leftward edges e) edges i d.edge d.is_leftward l in
    ap (λ b. if b then (get_or edges i d.edge).low else (get_or edges i d.edge).high) side

pub leads_away : (edges : List Edge) (leftward : List Bool) (w : Walk) (start at back : Point) (i : ℕ) (e : Edge) → AreSides edges edges leftward → length w.walked ≡ length edges → IsLeftCourse edges w start at →
    IsOpenAt edges w i at → e ≡ get_or edges i e → IsTakenFirst edges leftward w at (aim at back) i → start_of edges e ≡ at
leads_away edges leftward w start at back i e s marks h o is first =
    let held = subst (λ (g : Edge). Contains (edges_left edges w.walked) g) (sym is) (left_at edges w.walked i e o.end.within (o.left true)) in
    let x = exit edges (edges_left edges w.walked) start at h.left (inr (e, (held, ap (λ (g : Edge). is_end_of g at) is ∙ o.end.end e))) in
    let r = left_by edges w.walked x.0 marks x.1.0 in
    let f = x.1.1 in
    let d : Way = record { edge = x.0; is_leftward = true } in
    let c : Way = record { edge = e; is_leftward = true } in
    let within = r.within in
    let ended : is_end_of (get_or edges r.i x.0) at ≡ true = ap (λ (g : Edge). is_end_of g at) r.is ∙ subst (λ (p : Point). is_end_of x.0 p ≡ true) f (start_is_end edges x.0) in
    let open' : IsOpenAt edges w r.i at = record { end = record { within = within; end = λ g. ap (λ (y : Edge). is_end_of y at) (get_or_default edges r.i g x.0 within) ∙ ended }; left = λ b. get_or_default w.walked r.i b true (omega (arith, marks)) ∙ r.left } in
    let tail : tail_of (way_at edges leftward r.i d) ≡ at = tail_is edges leftward r.i d s within ∙ ap (λ (y : Edge). start_of edges y) r.is ∙ f in
    let from : is_from (way_at edges leftward r.i d) at ≡ true = ap (λ (p : Point). is_same_point p at) tail ∙ same_point_itself at in
    let same : way_at edges leftward i d ≡ way_at edges leftward i d = refl in
    let mine = first_alone (is_from (way_at edges leftward r.i d) at) (is_from (way_at edges leftward i d) at) _ from (first r.i d open') in
    ap (λ (y : Edge). start_of edges y) (is ∙ get_or_default edges i e x.0 o.end.within) ∙ sym (tail_is edges leftward i d s o.end.within) ∙ same_points_equal (tail_of (way_at edges leftward i d)) at mine
  where
    start_is_end : (edges : List Edge) (g : Edge) → is_end_of g (start_of edges g) ≡ true
    start_is_end edges g = go (is_leftward edges g)
      where
        or_right : (b : Bool) → (b || true) ≡ true
        or_right true = refl
        or_right false = refl

        go : (b : Bool) → is_end_of g (if b then g.low else g.high) ≡ true
        go true = ap (λ b. b || is_same_point g.high g.low) (same_point_itself g.low)
        go false = ap (λ b. is_same_point g.low g.high || b) (same_point_itself g.high) ∙ or_right (is_same_point g.low g.high)

-- a walk begins on its first edge where that starts
pub first_leads : (edges : List Edge) (leftward : List Bool) (i : ℕ) (w : Way) (at : Point) (e : Edge) → AreSides edges edges leftward → i < length edges → ((d : Way) → w ≡ way_at edges leftward i d) → at ≡ tail_of w → e ≡ get_or edges i e → start_of edges e ≡ at
first_leads edges leftward i w at e s l is q g =
    let d : Way = record { edge = e; is_leftward = true } in
    ap (λ (y : Edge). start_of edges y) g ∙ sym (tail_is edges leftward i d s l) ∙ ap tail_of (sym (is d)) ∙ sym q

-- the edge on which a walk goes on starts where the walk stands
pub goes_away : (edges : List Edge) (leftward : List Bool) (w : Walk) (start at back : Point) (next : Option ℕ) → AreSides edges edges leftward → length w.walked ≡ length edges → IsLeftCourse edges w start at → at ≢ back →
    IfSome next (λ i. IsOpenAt edges w i at) → IfSome next (λ i. at ≢ back → IsTakenFirst edges leftward w at (aim at back) i) → IfSome next (λ i. (d : Edge) → start_of edges (get_or edges i d) ≡ at)
goes_away edges leftward w start at back None s marks h other o first = tt
goes_away edges leftward w start at back (Some i) s marks h other o first = λ d.
    let e = get_or edges i d in
    let is : e ≡ get_or edges i e = get_or_default edges i d e o.end.within in
    leads_away edges leftward w start at back i e s marks h o is (first other)
