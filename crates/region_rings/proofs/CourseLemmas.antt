-- The steps of a walk.
use Rattle.std.proofs.Common.{◌≡◌, ◌≢◌, ◌⊎◌, inl, inr, ℕ, ◌+◌, ◌-◌, ◌%◌, ◌<◌, ◌≤◌, refl, sym, ◌∙◌, ap, subst, arith, Bool, true, false, true≢false, cond, ◌&&◌, ◌||◌, if◌then◌else◌, nat_lt, List, [], ◌∷◌, ◌++◌, length, take, drop, map, flat_map, count_by, get_or, set, slice_index}
use Rattle.std.proofs.lemmas.Bool.Decides.{nat_tests}
use Rattle.std.proofs.lemmas.List.{length-take, length-take-le, length-drop, length-set, get_or-take, get_or-drop, get_or_append_left, get_or_push, length_push, get_or-set_same, get_or-set_other, get_or_default, flat_map_more}
use Rattle.std.proofs.lemmas.List.Elements.{All-push}
use Rattle.plane_edge.specs.declared.edge.Edge.{Edge}
use Rattle.plane_edge.specs.declared.point.Point.{Point}
use Rattle.plane_edge.specs.Edges.{is_same_point, IsRisingEdges}
use Rattle.plane_edge.specs.Line.{is_end_of}
use Rattle.plane_edge.specs.Rings.{ends_of, step_between, steps_of_ring, IsRing, is_same_step, times, VisitsNoneTwice}
use Rattle.plane_edge.proofs.EndLemmas.{not_both}
use Rattle.plane_edge.proofs.EvenLists.{bit, count-cons, count-map}
use Rattle.plane_edge.proofs.OddLemmas.{occurs_once}
use Rattle.plane_edge.proofs.OrderLemmas.{same_points_equal, same_point_itself, same_edge_itself}
use Rattle.region_rings.specs.declared.spoke.Spoke.{Spoke}
use Rattle.region_rings.specs.Spokes.{IsFirstAt}
use Rattle.region_rings.specs.Ways.{other_end_of}
use Rattle.region_rings.specs.Walks.{Walk, along, onto, cut_at, is_visited, reaching, edges_left, IsOpenAt}
use Rattle.region_rings.proofs.Underway.{steps_of_path, once, IsUnderway}
use Rattle.region_rings.proofs.StepLemmas.{steps-push, steps-cut, count-steps, step_of_path, step_up, step_down}
use Rattle.region_rings.proofs.MarkLemmas.{count-walked}
use Rattle.region_rings.proofs.SpokeLemmas.{one_number, one_point}

-- ---- lists without a point that stands twice
simple-take : (n : ℕ) (ps : List Point) → VisitsNoneTwice ps → VisitsNoneTwice (take n ps)
simple-take n ps h = λ i j d l m e.
    let long = length-take n ps in
    let below : j < n = omega arith in
    h i j d l (omega arith) (sym (get_or-take n ps i d (omega arith)) ∙ (e ∙ get_or-take n ps j d below))

simple-drop : (n : ℕ) (ps : List Point) → VisitsNoneTwice ps → VisitsNoneTwice (drop n ps)
simple-drop n ps h = λ i j d l m e.
    let long = length-drop n ps in
    h (n + i) (n + j) d (omega arith) (omega arith) (sym (get_or-drop n ps i d) ∙ (e ∙ get_or-drop n ps j d))

simple-push : (ps : List Point) (p : Point) → VisitsNoneTwice ps → ((k : ℕ) (d : Point) → k < length ps → get_or ps k d ≢ p) → VisitsNoneTwice (ps ++ p ∷ [])
simple-push ps p h new = λ i j d l m e. go i j d l e (cases j (omega (arith, length_push ps p)))
  where
    cases : (j : ℕ) → j < length ps + 1 → (j < length ps) ⊎ (j ≡ length ps)
    cases j m = grind arith

    go : (i j : ℕ) (d : Point) → i < j → get_or (ps ++ p ∷ []) i d ≡ get_or (ps ++ p ∷ []) j d → (j < length ps) ⊎ (j ≡ length ps) → ⊥
    go i j d l e (inl m) = h i j d l m (sym (get_or_append_left ps (p ∷ []) d i (omega arith)) ∙ (e ∙ get_or_append_left ps (p ∷ []) d j m))
    go i j d l e (inr m) = new i d (omega arith) (sym (get_or_append_left ps (p ∷ []) d i (omega arith)) ∙ (e ∙ get_or_push ps p d j (sym m)))

-- ---- an edge and its ends
end_cases : (a b : Bool) → (a || b) ≡ true → (a ≡ true) ⊎ ((a ≡ false) × (b ≡ true))
end_cases true b h = inl refl
end_cases false b h = inr (refl, h)

-- an edge from one of its ends
pub record IsAlong (e : Edge) (at to : Point) : Type 0 where
  pub apart : at ≢ to
  pub step : step_between at to ≡ ends_of e ∷ []
  pub back : step_between to at ≡ ends_of e ∷ []
  pub ends : (p : Point) → cond (is_end_of e p) 1 0 ≡ once at p + once to p

one_end : (a b : Bool) → (a ≡ true → b ≡ true → ⊥) → cond (a || b) 1 0 ≡ (if a then 1 else 0) + (if b then 1 else 0)
one_end true true h = absurd (h refl refl)
one_end true false h = refl
one_end false true h = refl
one_end false false h = refl

upwards : (e : Edge) → IsAlong e e.low e.high
upwards e = record {
  apart = λ q. not_both e e.high (subst (λ (r : Point). is_same_point e.low r ≡ true) q (same_point_itself e.low)) (same_point_itself e.high);
  step = step_up e;
  back = step_down e;
  ends = λ p. one_end (is_same_point e.low p) (is_same_point e.high p) (not_both e p);
}

downwards : (e : Edge) → IsAlong e e.high e.low
downwards e = record {
  apart = λ q. not_both e e.low (same_point_itself e.low) (subst (λ (r : Point). is_same_point e.high r ≡ true) q (same_point_itself e.high));
  step = step_down e;
  back = step_up e;
  ends = λ p. omega (arith, one_end (is_same_point e.low p) (is_same_point e.high p) (not_both e p));
}

pub along_edge : (e : Edge) (at : Point) → is_end_of e at ≡ true → IsAlong e at (other_end_of e at)
along_edge e at h = go (end_cases (is_same_point e.low at) (is_same_point e.high at) h)
  where
    go : (is_same_point e.low at ≡ true) ⊎ ((is_same_point e.low at ≡ false) × (is_same_point e.high at ≡ true)) → IsAlong e at (other_end_of e at)
    go (inl a) = rw a (subst (λ (p : Point). IsAlong e p e.high) (same_points_equal e.low at a) (upwards e))
    go (inr b) = rw b.0 (subst (λ (p : Point). IsAlong e p e.low) (same_points_equal e.high at b.1) (downwards e))

-- ---- along an edge
count_ends : (s : Point × Point) (es : List Edge) → times s (map ends_of es) ≡ count_by (λ e. is_same_step s (ends_of e)) es
count_ends s es = count-map (λ t. is_same_step s t) ends_of es

count_step : (s t : Point × Point) → times s (t ∷ []) ≡ bit (is_same_step s t)
count_step s t = omega (arith, count-cons (λ u. is_same_step s u) t [])

tally_along : (edges : List Edge) (spokes : List Spoke) (w : Walk) (start at to : Point) (i : ℕ) (e : Edge) → IsUnderway edges spokes w start at → IsOpenAt edges w i at → e ≡ get_or edges i e → IsAlong e at to →
    (s : Point × Point) → times s (flat_map steps_of_ring w.rings) + (times s (steps_of_path w.path ++ step_between at to) + times s (map ends_of (edges_left edges (set w.walked i true)))) ≡ times s (map ends_of edges)
tally_along edges spokes w start at to i e u o is a s =
    let f : Edge → Bool = λ g. is_same_step s (ends_of g) in
    let one = count-walked f edges w.walked i e o.end.within (o.left true) in
    let same : bit (f (get_or edges i e)) ≡ bit (f e) = ap (λ (g : Edge). bit (f g)) (sym is) in
    let step : times s (step_between at to) ≡ bit (f e) = ap (times s) a.step ∙ count_step s (ends_of e) in
    omega (arith, u.tally s, count_ends s (edges_left edges w.walked), count_ends s (edges_left edges (set w.walked i true)), count-steps s (steps_of_path w.path) (step_between at to))

even_along : (edges : List Edge) (spokes : List Spoke) (w : Walk) (start at to : Point) (i : ℕ) (e : Edge) → IsUnderway edges spokes w start at → IsOpenAt edges w i at → e ≡ get_or edges i e → IsAlong e at to →
    (p : Point) → (count_by (λ e. is_end_of e p) (edges_left edges (set w.walked i true)) + (once start p + once to p)) % 2 ≡ 0
even_along edges spokes w start at to i e u o is a p =
    let f : Edge → Bool = λ g. is_end_of g p in
    let one = count-walked f edges w.walked i e o.end.within (o.left true) in
    let same : bit (f (get_or edges i e)) ≡ bit (f e) = ap (λ (g : Edge). bit (f g)) (sym is) in
    omega (arith, u.even p, a.ends p)

-- a path does not go back along the edge on which it came
no_return : (edges : List Edge) (spokes : List Spoke) (w : Walk) (start at to : Point) (i : ℕ) (e : Edge) → IsRisingEdges edges → IsUnderway edges spokes w start at → IsOpenAt edges w i at → e ≡ get_or edges i e → IsAlong e at to →
    (k : ℕ) → k + 1 < length w.path → get_or w.path k to ≡ to → get_or w.path (k + 1) to ≡ at → ⊥
no_return edges spokes w start at to i e r u o is a k l p q =
    let s : Point × Point = ends_of e in
    let itself : bit (is_same_step s (ends_of e)) ≡ 1 = ap bit (same_edge_itself e) in
    let f : Edge → Bool = λ g. is_same_step s (ends_of g) in
    let one = count-walked f edges w.walked i e o.end.within (o.left true) in
    let same : bit (f (get_or edges i e)) ≡ bit (f e) = ap (λ (g : Edge). bit (f g)) (sym is) in
    let most : times s (map ends_of edges) ≤ 1 = omega (arith, count_ends s edges, occurs_once e edges r) in
    let there : times s (step_between (get_or w.path k to) (get_or w.path (k + 1) to)) ≡ 1 = ap (λ (x : Point). times s (step_between x (get_or w.path (k + 1) to))) p ∙ ap (λ (x : Point). times s (step_between to x)) q ∙ ap (times s) a.back ∙ count_step s (ends_of e) ∙ itself in
    absurd (omega (arith, u.tally s, count_ends s (edges_left edges w.walked), step_of_path s k w.path to l))

-- ---- the path goes on
-- an edge that is not walked is taken, to the point of that number
pub record IsStepping (edges : List Edge) (spokes : List Spoke) (w : Walk) (start at to : Point) (n i : ℕ) (e : Edge) : Type 0 where
  pub rising : IsRisingEdges edges
  pub under : IsUnderway edges spokes w start at
  pub left : IsOpenAt edges w i at
  pub is : e ≡ get_or edges i e
  pub goes : IsAlong e at to
  pub number : IsFirstAt spokes to n

visited_parts : (k n : ℕ) (b : Bool) → (nat_lt k n && b) ≡ true → (k < n) × (b ≡ true)
visited_parts k n b h = grind (arith, nat_tests)

visited_not : (k n : ℕ) (b : Bool) → (nat_lt k n && b) ≡ false → k < n → b ≡ false
visited_not k n b h l = grind (arith, nat_tests)

last_place : (k n : ℕ) → k < n + 1 → (k < n) ⊎ (k ≡ n)
last_place k n h = grind arith

-- a point that is not found is not on the path
new_point : (edges : List Edge) (spokes : List Spoke) (w : Walk) (start at to : Point) (n : ℕ) → IsUnderway edges spokes w start at → IsFirstAt spokes to n → is_visited to n w ≡ false → (k : ℕ) (d : Point) → k < length w.path → get_or w.path k d ≢ to
new_point edges spokes w start at to n u f v k d l e =
    let place : slice_index w.places n ≡ k = u.placed k n d l (subst (λ (p : Point). IsFirstAt spokes p n) (sym e) f) in
    let there : get_or w.path (slice_index w.places n) to ≡ to = ap (λ j. get_or w.path j to) place ∙ (get_or_default w.path k to d l ∙ e) in
    let not_there = visited_not (slice_index w.places n) (length w.path) (is_same_point (get_or w.path (slice_index w.places n) to) to) v (omega arith) in
    true≢false (sym (same_point_itself to) ∙ (ap (λ (p : Point). is_same_point p to) (sym there) ∙ not_there))

gone_on : (edges : List Edge) (spokes : List Spoke) (w : Walk) (start at to : Point) (n i : ℕ) (e : Edge) → IsStepping edges spokes w start at to n i e → is_visited to n w ≡ false → IsUnderway edges spokes (onto to n (along i w)) start to
gone_on edges spokes w start at to n i e s v =
    let u = s.under in
    let new = new_point edges spokes w start at to n u s.number v in
    let long = length_push w.path to in
    record {
      marks = length-set w.walked i true ∙ u.marks;
      room = length-set w.places n (length w.path) ∙ u.room;
      rings = u.rings;
      tally = λ t. ap (λ ss. times t (flat_map steps_of_ring w.rings) + (times t ss + times t (map ends_of (edges_left edges (set w.walked i true))))) (steps-push w.path at to u.begun (u.upto at))
          ∙ tally_along edges spokes w start at to i e u s.left s.is s.goes t;
      even = even_along edges spokes w start at to i e u s.left s.is s.goes;
      simple = simple-push w.path to u.simple new;
      begun = omega arith;
      from = λ d. get_or_append_left w.path (to ∷ []) d 0 u.begun ∙ u.from d;
      upto = λ d. get_or_push w.path to d (length (w.path ++ to ∷ []) - 1) (omega arith);
      placed = λ k m d l f. placed k m d f (last_place k (length w.path) (omega arith));
    }
  where
    placed : (k m : ℕ) (d : Point) → IsFirstAt spokes (get_or (w.path ++ to ∷ []) k d) m → (k < length w.path) ⊎ (k ≡ length w.path) → slice_index (set w.places n (length w.path)) m ≡ k
    placed k m d f (inl l) =
        let u = s.under in
        let g : IsFirstAt spokes (get_or w.path k d) m = subst (λ (p : Point). IsFirstAt spokes p m) (get_or_append_left w.path (to ∷ []) d k l) f in
        let other : m ≢ n = one_point spokes (get_or w.path k d) to m n (new_point edges spokes w start at to n u s.number v k d l) g s.number in
        get_or-set_other w.places n m (length w.path) 0 other ∙ u.placed k m d l g
    placed k m d f (inr l) =
        let g : IsFirstAt spokes to m = subst (λ (p : Point). IsFirstAt spokes p m) (get_or_push w.path to d k (sym l)) f in
        let same : m ≡ n = one_number spokes to m n g s.number in
        let r = s.under.room in
        let within = s.number.within in
        ap (λ j. slice_index (set w.places n (length w.path)) j) same ∙ (get_or-set_same w.places n (length w.path) 0 (omega arith) ∙ sym l)

-- ---- a ring is cut off
ring_length : (k n : ℕ) → k < n → (k + 1 ≡ n → ⊥) → (k + 2 ≡ n → ⊥) → 3 ≤ n - k
ring_length k n h f g = grind arith

one_more : (k n : ℕ) → k + 2 ≡ n → (k + 1 < n) × (k + 1 ≡ n - 1)
one_more k n h = (omega arith, omega arith)

come_back : (edges : List Edge) (spokes : List Spoke) (w : Walk) (start at to : Point) (n i : ℕ) (e : Edge) → IsStepping edges spokes w start at to n i e → (k : ℕ) → k < length w.path → get_or w.path k to ≡ to → IsRing (drop k w.path)
come_back edges spokes w start at to n i e s k l q = record {
  long = rw (length-drop k w.path) (ring_length k (length w.path) l
      (λ m. s.goes.apart (sym (s.under.upto to) ∙ (ap (λ j. get_or w.path j to) (omega arith) ∙ q)))
      (λ m. no_return edges spokes w start at to i e s.rising s.under s.left s.is s.goes k (one_more k (length w.path) m).0 q (ap (λ j. get_or w.path j to) (one_more k (length w.path) m).1 ∙ s.under.upto to)));
  simple = simple-drop k w.path s.under.simple;
}

cut_off : (edges : List Edge) (spokes : List Spoke) (w : Walk) (start at to : Point) (n i : ℕ) (e : Edge) → IsStepping edges spokes w start at to n i e → (k : ℕ) → k < length w.path → get_or w.path k to ≡ to → IsUnderway edges spokes (cut_at k (along i w)) start to
cut_off edges spokes w start at to n i e s k l q =
    let u = s.under in
    let long = length-take-le (k + 1) w.path (omega arith) in
    let path : List Point = take (k + 1) w.path in
    let ring : List Point = drop k w.path in
    let more : flat_map steps_of_ring (w.rings ++ ring ∷ []) ≡ flat_map steps_of_ring w.rings ++ steps_of_ring ring = sym (flat_map_more steps_of_ring [] w.rings ring) in
    let parts = steps-cut k w.path at to l (u.upto at) q in
    record {
      marks = length-set w.walked i true ∙ u.marks;
      room = u.room;
      rings = All-push IsRing w.rings ring u.rings (come_back edges spokes w start at to n i e s k l q);
      tally = λ t.
          let before = tally_along edges spokes w start at to i e u s.left s.is s.goes t in
          let a : times t (flat_map steps_of_ring (w.rings ++ ring ∷ [])) ≡ times t (flat_map steps_of_ring w.rings) + times t (steps_of_ring ring) = ap (times t) more ∙ count-steps t (flat_map steps_of_ring w.rings) (steps_of_ring ring) in
          let b : times t (steps_of_path w.path ++ step_between at to) ≡ times t (steps_of_path path) + times t (steps_of_ring ring) = ap (times t) parts ∙ count-steps t (steps_of_path path) (steps_of_ring ring) in
          omega arith;
      even = even_along edges spokes w start at to i e u s.left s.is s.goes;
      simple = simple-take (k + 1) w.path u.simple;
      begun = omega arith;
      from = λ d. get_or-take (k + 1) w.path 0 d (omega arith) ∙ u.from d;
      upto = λ d. ap (λ j. get_or path j d) (omega arith) ∙ (get_or-take (k + 1) w.path k d (omega arith) ∙ (get_or_default w.path k d to l ∙ q));
      placed = λ j m d h f.
          let below : j < k + 1 = omega arith in
          u.placed j m d (omega arith) (subst (λ (p : Point). IsFirstAt spokes p m) (get_or-take (k + 1) w.path j d below) f);
    }

-- the walk has gone along the edge
pub gone : (edges : List Edge) (spokes : List Spoke) (w : Walk) (start at to : Point) (n i : ℕ) (e : Edge) → IsStepping edges spokes w start at to n i e → IsUnderway edges spokes (reaching to n (along i w)) start to
gone edges spokes w start at to n i e s = go (is_visited to n w) refl
  where
    go : (b : Bool) → is_visited to n w ≡ b → IsUnderway edges spokes (if b then cut_at (slice_index w.places n) (along i w) else onto to n (along i w)) start to
    go true v =
        let p = visited_parts (slice_index w.places n) (length w.path) (is_same_point (get_or w.path (slice_index w.places n) to) to) v in
        cut_off edges spokes w start at to n i e s (slice_index w.places n) p.0 (same_points_equal (get_or w.path (slice_index w.places n) to) to p.1)
    go false v = gone_on edges spokes w start at to n i e s v
