-- How walks begin and end.
use Rattle.std.proofs.Common.{◌≡◌, ◌⊎◌, inl, inr, ℕ, ◌+◌, ◌-◌, ◌%◌, ◌<◌, refl, sym, ◌∙◌, ap, subst, arith, zero-add, Bool, true, false, if◌then◌else◌, List, [], ◌∷◌, length, map, flat_map, count_by, get_or, set, replicate, slice_index}
use Rattle.std.proofs.lemmas.List.{length-set, length-replicate, get_or-set_same, get_or_default}
use Rattle.std.proofs.lemmas.List.Elements.{All-nil}
use Rattle.plane_edge.specs.declared.edge.Edge.{Edge}
use Rattle.plane_edge.specs.declared.point.Point.{Point}
use Rattle.plane_edge.specs.Edges.{is_same_point, HaveEvenEnds}
use Rattle.plane_edge.specs.Line.{is_end_of}
use Rattle.plane_edge.specs.Rings.{ends_of, steps_of_ring, IsRing, times}
use Rattle.plane_edge.proofs.OrderLemmas.{same_points_equal, same_point_itself}
use Rattle.region_rings.specs.declared.spoke.Spoke.{Spoke}
use Rattle.region_rings.specs.RegionRings.{AreRingsOf}
use Rattle.region_rings.specs.Spokes.{IsFirstAt}
use Rattle.region_rings.specs.Walks.{Walk, beginning, edges_left, IsNoneOpenAt, IsAtRest}
use Rattle.region_rings.proofs.Underway.{steps_of_path, once, IsUnderway}
use Rattle.region_rings.proofs.MarkLemmas.{none_left, edges_left-all, edges_left-none}
use Rattle.region_rings.proofs.SpokeLemmas.{one_number}

-- ---- the first step
twice_even : (n m : ℕ) → n % 2 ≡ 0 → (n + (m + m)) % 2 ≡ 0
twice_even n m h = omega arith

-- a walk that begins at a point
pub begun : (edges : List Edge) (spokes : List Spoke) (w : Walk) (at : Point) (n : ℕ) → IsAtRest edges spokes w → IsFirstAt spokes at n → IsUnderway edges spokes (beginning at n w) at at
begun edges spokes w at n r f = record {
  marks = r.marks;
  room = length-set w.places n 0 ∙ r.room;
  rings = r.rings;
  tally = λ s. ap (λ m. times s (flat_map steps_of_ring w.rings) + m) (zero-add (times s (map ends_of (edges_left edges w.walked)))) ∙ r.tally s;
  even = λ p. twice_even (count_by (λ e. is_end_of e p) (edges_left edges w.walked)) (once at p) (r.even p);
  simple = λ i j d l m. absurd (omega arith);
  begun = omega arith;
  from = λ d. refl;
  upto = λ d. refl;
  placed = λ k m d l g. placed k m d g (none_before k l);
}
  where
    none_before : (k : ℕ) → k < 1 → k ≡ 0
    none_before k l = omega arith

    placed : (k m : ℕ) (d : Point) → IsFirstAt spokes (get_or (at ∷ []) k d) m → k ≡ 0 → slice_index (set w.places n 0) m ≡ k
    placed k m d g z =
        let h : IsFirstAt spokes at m = subst (λ (j : ℕ). IsFirstAt spokes (get_or (at ∷ []) j d) m) z g in
        let room = r.room in
        let within = f.within in
        ap (λ j. slice_index (set w.places n 0) j) (one_number spokes at m n h f) ∙ (get_or-set_same w.places n 0 0 (omega arith) ∙ sym z)

-- ---- the last step
steps-one : (ps : List Point) → length ps ≡ 1 → steps_of_path ps ≡ []
steps-one [] h = absurd (omega arith)
steps-one (p ∷ []) h = refl
steps-one (p ∷ q ∷ qs) h = absurd (omega arith)

odd_once : (b : Bool) → (0 + ((if b then 1 else 0) + 1)) % 2 ≡ 0 → b ≡ true
odd_once true h = refl
odd_once false h = absurd (omega arith)

-- where no edge is left at the point of a walk, it is back at its first point
pub back_at_start : (edges : List Edge) (spokes : List Spoke) (w : Walk) (start at : Point) → IsUnderway edges spokes w start at → IsNoneOpenAt edges w at → start ≡ at
back_at_start edges spokes w start at u h =
    let none : count_by (λ e. is_end_of e at) (edges_left edges w.walked) ≡ 0 = none_left at edges w.walked u.marks (λ i d l t. h i true (record { within = l; end = λ c. ap (λ (e : Edge). is_end_of e at) (get_or_default edges i c d l) ∙ t })) in
    let here : once at at ≡ 1 = ap (λ b. if b then 1 else 0) (same_point_itself at) in
    let all = u.even at in
    same_points_equal start at (odd_once (is_same_point start at) (omega arith))

some_more : (n : ℕ) → 0 < n → (n ≡ 1) ⊎ (1 < n)
some_more n h = grind arith

one_point_left : (edges : List Edge) (spokes : List Spoke) (w : Walk) (start at : Point) → IsUnderway edges spokes w start at → start ≡ at → length w.path ≡ 1
one_point_left edges spokes w start at u e = go (some_more (length w.path) u.begun)
  where
    go : (length w.path ≡ 1) ⊎ (1 < length w.path) → length w.path ≡ 1
    go (inl h) = h
    go (inr h) =
        let l = u.begun in
        absurd (u.simple 0 (length w.path - 1) at (omega arith) (omega arith) (u.from at ∙ (e ∙ sym (u.upto at))))

even_rest : (n m : ℕ) → (n + (m + m)) % 2 ≡ 0 → n % 2 ≡ 0
even_rest n m h = omega arith

pub at_rest : (edges : List Edge) (spokes : List Spoke) (w : Walk) (start at : Point) → IsUnderway edges spokes w start at → IsNoneOpenAt edges w at → IsAtRest edges spokes w
at_rest edges spokes w start at u h =
    let back = back_at_start edges spokes w start at u h in
    let none = steps-one w.path (one_point_left edges spokes w start at u back) in
    record {
      marks = u.marks;
      room = u.room;
      rings = u.rings;
      tally = λ s.
          let zero : times s (steps_of_path w.path) ≡ 0 = ap (times s) none in
          let all = u.tally s in
          omega arith;
      even = λ p. even_rest (count_by (λ e. is_end_of e p) (edges_left edges w.walked)) (once at p) (subst (λ (q : Point). (count_by (λ e. is_end_of e p) (edges_left edges w.walked) + (once q p + once at p)) % 2 ≡ 0) back (u.even p));
    }

-- ---- all walks
rest_before : (edges : List Edge) (spokes : List Spoke) → HaveEvenEnds edges → IsAtRest edges spokes (record { walked = replicate (length edges) false; path = []; places = replicate (length spokes) 0; rings = [] })
rest_before edges spokes h = record {
  marks = length-replicate (length edges) false;
  room = length-replicate (length spokes) 0;
  rings = All-nil IsRing;
  tally = λ s. zero-add (times s (map ends_of (edges_left edges (replicate (length edges) false)))) ∙ ap (λ (es : List Edge). times s (map ends_of es)) (edges_left-none edges);
  even = λ p. ap (λ (es : List Edge). count_by (λ e. is_end_of e p) es % 2) (edges_left-none edges) ∙ h p;
}

-- before the first walk
pub rest_begun : (edges : List Edge) (spokes : List Spoke) (w : Walk) (n : ℕ) → HaveEvenEnds edges → n ≡ length spokes → w ≡ record { walked = replicate (length edges) false; path = []; places = replicate n 0; rings = [] } → IsAtRest edges spokes w
rest_begun edges spokes w n h e q =
    let r : w ≡ record { walked = replicate (length edges) false; path = []; places = replicate (length spokes) 0; rings = [] } = q ∙ ap (λ m. record { walked = replicate (length edges) false; path = []; places = replicate m 0; rings = [] }) e in
    subst (λ (v : Walk). IsAtRest edges spokes v) (sym r) (rest_before edges spokes h)

-- after the last walk
pub all_drawn : (edges : List Edge) (spokes : List Spoke) (w : Walk) → IsAtRest edges spokes w → ((i : ℕ) → i < length edges → get_or w.walked i true ≡ true) → AreRingsOf edges w.rings
all_drawn edges spokes w r h =
    let none = edges_left-all edges w.walked r.marks h in
    record {
      each = r.rings;
      exact = λ s.
          let zero : times s (map ends_of (edges_left edges w.walked)) ≡ 0 = ap (λ (es : List Edge). times s (map ends_of es)) none in
          let all = r.tally s in
          omega arith;
    }
