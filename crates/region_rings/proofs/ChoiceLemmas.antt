-- The spokes at a point, and the choice among them.
use Rattle.std.proofs.Common.{◌≡◌, ◌≢◌, ◌⊎◌, inl, inr, ℕ, ◌+◌, ◌<◌, ◌≤◌, refl, sym, ◌∙◌, ap, subst, arith, Bool, true, false, true≢false, not, ◌&&◌, Option, Some, None, IfSome, IfNone, List, length, get_or, Contains, is_lt}
use Rattle.std.proofs.Common.{Ordering, Less, Equal, Greater}
use Rattle.std.specs.List.Sorted.{IsPartitionedBy, IsPartitionPoint}
use Rattle.std.specs.Ordering.{ordering_reverse, is_eq, int_eq}
use Rattle.std.proofs.lemmas.List.{get_or_default}
use Rattle.plane_edge.specs.declared.edge.Edge.{Edge}
use Rattle.plane_edge.specs.declared.point.Point.{Point}
use Rattle.plane_edge.specs.Edges.{is_same_point}
use Rattle.plane_edge.specs.Order.{is_below}
use Rattle.plane_edge.proofs.OrderLemmas.{point_order, point_order_total, below_is_less, same_is_equal, same_points_equal, same_point_itself, point_irreflexive}
use Rattle.region_rings.specs.declared.spoke.Spoke.{Spoke}
use Rattle.region_rings.specs.Spokes.{spoke, IsEndAt, AreInOrder, AreSpokesOf, IsFirstAt}
use Rattle.region_rings.specs.Walks.{Walk, IsOpenAt, IsNoneOpenAt}

-- ---- tests
swapped : (a b : Bool) → (a && b) ≡ (b && a)
swapped true true = refl
swapped true false = refl
swapped false true = refl
swapped false false = refl

not_false : (b : Bool) → not b ≡ false → b ≡ true
not_false true h = refl
not_false false h = absurd (true≢false h)

not_true : (b : Bool) → not b ≡ true → b ≡ false
not_true true h = absurd (true≢false (sym h))
not_true false h = refl

-- ---- the order of points
not_less : Less ≡ Less → (o : Ordering) → o ≡ Less → is_lt o ≡ false → ⊥
not_less u o h k = true≢false (sym (ap is_lt h) ∙ k)

-- of two points neither of which is below the other
pub same_place : (p q : Point) → is_below p q ≡ false → is_below q p ≡ false → p ≡ q
same_place p q h k = go (point_order p q) refl
  where
    go : (o : Ordering) → point_order p q ≡ o → p ≡ q
    go Less e = absurd (not_less refl (point_order p q) e (sym (below_is_less p q) ∙ h))
    go Equal e = same_points_equal p q (same_is_equal p q ∙ ap is_eq e)
    go Greater e = absurd (not_less refl (point_order q p) (point_order_total.antisymm q p ∙ ap ordering_reverse e) (sym (below_is_less q p) ∙ k))

-- what `!=` of two points tells, as `cmp` orders them
pub same_by_test : (p q : Point) (b : Bool) → b ≡ not (int_eq p.y q.y && int_eq p.x q.x) → b ≡ false → p ≡ q
same_by_test p q b h k = same_points_equal p q (sym (swapped (int_eq p.y q.y) (int_eq p.x q.x)) ∙ not_false (int_eq p.y q.y && int_eq p.x q.x) (sym h ∙ k))

pub other_by_test : (p q : Point) (b : Bool) → b ≡ not (int_eq p.y q.y && int_eq p.x q.x) → b ≡ true → p ≢ q
other_by_test p q b h k = λ e.
    true≢false (sym (subst (λ (r : Point). is_same_point p r ≡ true) e (same_point_itself p)) ∙ (sym (swapped (int_eq p.y q.y) (int_eq p.x q.x)) ∙ not_true (int_eq p.y q.y && int_eq p.x q.x) (sym h ∙ k)))

less_of : (o : Ordering) → is_lt o ≡ true → o ≡ Less
less_of Less h = refl
less_of Equal h = absurd (true≢false (sym h))
less_of Greater h = absurd (true≢false (sym h))

-- p is not after q, and q is below r
pub below_after : (p q r : Point) → is_below q p ≡ false → is_below q r ≡ true → is_below p r ≡ true
below_after p q r h k = go (point_order p q) refl
  where
    less : point_order q r ≡ Less
    less = less_of (point_order q r) (sym (below_is_less q r) ∙ k)

    go : (o : Ordering) → point_order p q ≡ o → is_below p r ≡ true
    go Less e = below_is_less p r ∙ ap is_lt (point_order_total.trans p q r e less)
    go Equal e = subst (λ (s : Point). is_below s r ≡ true) (sym (same_points_equal p q (same_is_equal p q ∙ ap is_eq e))) k
    go Greater e = absurd (not_less refl (point_order q p) (point_order_total.antisymm q p ∙ ap ordering_reverse e) (sym (below_is_less q p) ∙ h))

-- ---- the first spoke at a point
at_or_before : (i j : ℕ) → i ≤ j → (i ≡ j) ⊎ (i < j)
at_or_before i j h = grind arith

not_after : (spokes : List Spoke) → AreInOrder spokes → (i j : ℕ) (d : Spoke) → i ≤ j → j < length spokes → is_below (get_or spokes j d).at (get_or spokes i d).at ≡ false
not_after spokes o i j d h l = go (at_or_before i j h)
  where
    go : (i ≡ j) ⊎ (i < j) → is_below (get_or spokes j d).at (get_or spokes i d).at ≡ false
    go (inl e) = subst (λ n. is_below (get_or spokes j d).at (get_or spokes n d).at ≡ false) (sym e) (point_irreflexive (get_or spokes j d).at)
    go (inr m) = o i j d m l

pub parted : (spokes : List Spoke) (p : Point) → AreInOrder spokes → IsPartitionedBy (λ s. is_below s.at p) spokes
parted spokes p o = λ i j d h l k. below_after (get_or spokes i d).at (get_or spokes j d).at p (not_after spokes o i j d h l) k

in_two : (i m : ℕ) → (m < i) ⊎ (i ≤ m)
in_two i m = grind arith

pub first_found : (spokes : List Spoke) (p : Point) (i : ℕ) → AreInOrder spokes → (edge : ℕ) × Contains spokes (spoke p edge) → IsPartitionPoint (λ s. is_below s.at p ≡ true) (λ s. is_below s.at p ≡ false) spokes i → IsFirstAt spokes p i
first_found spokes p i o has part = go (in_two i has.1.0)
  where
    any : Spoke
    any = spoke p has.0

    there : (get_or spokes has.1.0 any).at ≡ p
    there = ap (λ (s : Spoke). s.at) has.1.2

    go : (has.1.0 < i) ⊎ (i ≤ has.1.0) → IsFirstAt spokes p i
    go (inl h) = absurd (true≢false (sym (part.0 has.1.0 any (omega arith) h) ∙ (ap (λ (q : Point). is_below q p) there ∙ point_irreflexive p)))
    go (inr h) = (
        let l : has.1.0 < length spokes = has.1.1 in
        let in' : i < length spokes = omega arith in
        let low : is_below p (get_or spokes i any).at ≡ false = subst (λ (q : Point). is_below q (get_or spokes i any).at ≡ false) there (not_after spokes o i has.1.0 any h l) in
        let here : (get_or spokes i any).at ≡ p = same_place (get_or spokes i any).at p (part.1 i any (omega arith) in') low in
        record {
          within = in';
          here = λ d. ap (λ (s : Spoke). s.at) (get_or_default spokes i d any in') ∙ here;
          first = λ k d m e. true≢false (sym (part.0 k d (omega arith) m) ∙ (ap (λ (q : Point). is_below q p) e ∙ point_irreflexive p));
        }
        )

-- ---- the search for the next edge
-- what is known of the spokes before `place`
pub record IsSearched (edges : List Edge) (spokes : List Spoke) (w : Walk) (at : Point) (first place : ℕ) (best : Option ℕ) : Type 0 where
  pub some : IfSome best (λ e. IsOpenAt edges w e at)
  pub none : IfNone best ((k : ℕ) (s : Spoke) (d : Bool) → first ≤ k → k < place → get_or w.walked (get_or spokes k s).edge d ≡ true)

pub searched_none : (edges : List Edge) (spokes : List Spoke) (w : Walk) (at : Point) (first : ℕ) → IsSearched edges spokes w at first first None
searched_none edges spokes w at first = record { some = tt; none = λ k s d h l. absurd (omega arith) }

-- the edge of the spoke ends at its point
pub spoke_ends : (edges : List Edge) (spokes : List Spoke) (place : ℕ) (s : Spoke) (at : Point) → AreSpokesOf edges spokes → place < length spokes → s ≡ get_or spokes place s → s.at ≡ at → IsEndAt edges s.edge at
spoke_ends edges spokes place s at a l is here = subst (λ (p : Point). IsEndAt edges s.edge p) here ((a.exact s.edge s.at).0 (place, l, sym is))

pub searched_taken : (edges : List Edge) (spokes : List Spoke) (w : Walk) (at : Point) (first place : ℕ) (s : Spoke) → AreSpokesOf edges spokes → length w.walked ≡ length edges → place < length spokes → s ≡ get_or spokes place s → s.at ≡ at → get_or w.walked s.edge true ≡ false →
    IsSearched edges spokes w at first (place + 1) (Some s.edge)
searched_taken edges spokes w at first place s a m l is here open' =
    let end = spoke_ends edges spokes place s at a l is here in
    let within = end.within in
    record {
      some = record { end = end; left = λ d. get_or_default w.walked s.edge d true (omega arith) ∙ open' };
      none = tt;
    }

pub searched_better : (edges : List Edge) (spokes : List Spoke) (w : Walk) (at : Point) (first place : ℕ) (best : Option ℕ) → IsSearched edges spokes w at first place best → (IfNone best (false ≡ true)) → IsSearched edges spokes w at first (place + 1) best
searched_better edges spokes w at first place None h n = absurd (true≢false (sym n))
searched_better edges spokes w at first place (Some e) h n = record { some = h.some; none = tt }

one_more : (k n : ℕ) → k < n + 1 → (k < n) ⊎ (k ≡ n)
one_more k n h = grind arith

pub searched_walked : (edges : List Edge) (spokes : List Spoke) (w : Walk) (at : Point) (first place : ℕ) (s : Spoke) (best : Option ℕ) → AreSpokesOf edges spokes → length w.walked ≡ length edges → place < length spokes → s ≡ get_or spokes place s → s.at ≡ at → get_or w.walked s.edge true ≡ true →
    IsSearched edges spokes w at first place best → IsSearched edges spokes w at first (place + 1) best
searched_walked edges spokes w at first place s (Some e) a m l is here done h = record { some = h.some; none = tt }
searched_walked edges spokes w at first place s None a m l is here done h = record { some = tt; none = λ k t d b c. go k t d b (one_more k place c) }
  where
    go : (k : ℕ) (t : Spoke) (d : Bool) → first ≤ k → (k < place) ⊎ (k ≡ place) → get_or w.walked (get_or spokes k t).edge d ≡ true
    go k t d b (inl c) = h.none k t d b c
    go k t d b (inr e) =
        let within = (spoke_ends edges spokes place s at a l is here).within in
        ap (λ j. get_or w.walked (get_or spokes j t).edge d) e
        ∙ (ap (λ (r : Spoke). get_or w.walked r.edge d) (get_or_default spokes place t s l ∙ sym is)
        ∙ (get_or_default w.walked s.edge d true (omega arith) ∙ done))

-- behind the last spoke at the point
pub record IsPast (spokes : List Spoke) (at : Point) (place : ℕ) : Type 0 where
  pub past : (k : ℕ) (d : Spoke) → place ≤ k → k < length spokes → (get_or spokes k d).at ≢ at

pub past_all : (spokes : List Spoke) (at : Point) (place : ℕ) → length spokes ≤ place → IsPast spokes at place
past_all spokes at place h = record { past = λ k d b c e. absurd (omega arith) }

pub past_others : (edges : List Edge) (spokes : List Spoke) (at : Point) (first place : ℕ) (s : Spoke) → AreSpokesOf edges spokes → IsFirstAt spokes at first → first ≤ place → place < length spokes → s ≡ get_or spokes place s → s.at ≢ at → IsPast spokes at place
past_others edges spokes at first place s a f b l is other = record {
  past = λ k d c m e. (
      let up = subst (λ (q : Point). is_below (get_or spokes place d).at q ≡ false) (f.here d) (not_after spokes a.ordered first place d b l) in
      let down = subst (λ (q : Point). is_below q (get_or spokes place d).at ≡ false) e (not_after spokes a.ordered place k d c m) in
      let same = same_place (get_or spokes place d).at at up down in
      other (ap (λ (r : Spoke). r.at) (is ∙ get_or_default spokes place s d l) ∙ same)
      );
}

pub searched_all : (edges : List Edge) (spokes : List Spoke) (w : Walk) (at : Point) (first place : ℕ) (best : Option ℕ) → AreSpokesOf edges spokes → IsFirstAt spokes at first → IsPast spokes at place → IsSearched edges spokes w at first place best → IfNone best (IsNoneOpenAt edges w at)
searched_all edges spokes w at first place (Some e) a f p h = tt
searched_all edges spokes w at first place None a f p h = λ i d t. (
    let c = (a.exact i at).1 t in
    let here : (get_or spokes c.0 (spoke at i)).at ≡ at = ap (λ (s : Spoke). s.at) c.2 in
    ap (λ (s : Spoke). get_or w.walked s.edge d) (sym c.2) ∙ go i d c.0 here c.1 (in_two first c.0) (in_two place c.0)
    )
  where
    go : (i : ℕ) (d : Bool) (k : ℕ) → (get_or spokes k (spoke at i)).at ≡ at → k < length spokes → (k < first) ⊎ (first ≤ k) → (k < place) ⊎ (place ≤ k) → get_or w.walked (get_or spokes k (spoke at i)).edge d ≡ true
    go i d k here l (inl b) q = absurd (f.first k (spoke at i) b here)
    go i d k here l (inr b) (inl c) = h.none k (spoke at i) d b c
    go i d k here l (inr b) (inr c) = absurd (p.past k (spoke at i) c l here)
