-- The exit that a walk takes, and the links past those that are walked.
use Rattle.std.proofs.Common.{◌≡◌, ◌≢◌, ◌⊎◌, inl, inr, ℕ, ◌+◌, ◌<◌, ◌≤◌, refl, sym, ◌∙◌, ap, subst, arith, Bool, true, false, true≢false, if◌then◌else◌, not, List, [], ◌∷◌, ◌++◌, length, get_or, set, slice_index, Contains, ℤ, pos, ◌<ℤ◌, Option, Some, None, IfSome, IfNone}
use Rattle.std.specs.List.Sorted.{IsPartitionPoint}
use Rattle.std.proofs.lemmas.List.{get_or_default, get_or-set_same, get_or-set_other, length-set, length_push, get_or_append_left, get_or_push}
use Rattle.plane_edge.specs.declared.edge.Edge.{Edge}
use Rattle.plane_edge.specs.declared.point.Point.{Point}
use Rattle.plane_edge.specs.Edges.{is_same_point}
use Rattle.plane_edge.specs.Order.{is_below}
use Rattle.plane_edge.specs.Line.{is_end_of}
use Rattle.plane_edge.proofs.OrderLemmas.{same_points_equal, same_point_itself, point_irreflexive}
use Rattle.region_rings.specs.declared.exit.Exit.{Exit}
use Rattle.region_rings.specs.declared.way.Way.{Way}
use Rattle.region_rings.specs.Exits.{right, aim_of, is_past, is_met_before, exit_at, IsExitOf, AreExitsOf, IsWalkedAt, AreWalkedFrom, AreLinksOf, IsFirstFree, IsFoundAt, AreNotBelow, AreAllWalked}
use Rattle.region_rings.specs.Spokes.{IsEndAt}
use Rattle.region_rings.specs.Turning.{aim, IsSomewhere, is_first_by, is_met_sooner}
use Rattle.region_rings.specs.Walks.{Walk, along, reaching, IsOpenAt, IsTakenFirst}
use Rattle.region_rings.specs.Ways.{other_end_of, way_at, tail_of, is_from, is_taken_before}
use Rattle.region_rings.proofs.StepLemmas.{below-one_way}
use Rattle.region_rings.proofs.ChoiceLemmas.{same_place}
use Rattle.region_rings.proofs.RankLemmas.{leads_on}
use Rattle.region_rings.proofs.CycleLemmas.{sooner_from}
use Rattle.region_rings.proofs.DrawLemmas.{tail_is_end, stays_walked, marks_after}
use Rattle.region_rings.proofs.ExitLemmas.{right_somewhere, way_somewhere, way_default, exit_there, exit_read, not_ahead, tails_rise}

in_two : (i m : ℕ) → (m < i) ⊎ (i ≤ m)
in_two i m = grind arith

-- ---- links
pub links_begun : (exits : List Exit) (w : Walk) (links : List ℕ) → length links ≡ length exits → ((k : ℕ) → k < length exits → slice_index links k ≡ k + 1) → AreLinksOf exits w links
links_begun exits w links n h = record {
  count = n;
  onward = λ k l. (let e = h k l in omega arith);
  walked = λ k l j a b m. (let e = h k l in absurd (omega arith));
}

pub links_more : (place : ℕ) (old new : List ℕ) → length old ≡ place → ((k : ℕ) → k < place → slice_index old k ≡ k + 1) → new ≡ old ++ (place + 1) ∷ [] → (length new ≡ place + 1) × ((k : ℕ) → k < place + 1 → slice_index new k ≡ k + 1)
links_more place old new n h e = (
  ap length e ∙ (length_push old (place + 1) ∙ ap (λ j. j + 1) n),
  (λ k l. ap (λ xs. slice_index xs k) e ∙ go k (cases k l)),
)
  where
    cases : (k : ℕ) → k < place + 1 → (k < place) ⊎ (k ≡ place)
    cases k h = grind arith

    go : (k : ℕ) → (k < place) ⊎ (k ≡ place) → slice_index (old ++ (place + 1) ∷ []) k ≡ k + 1
    go k (inl l) = get_or_append_left old ((place + 1) ∷ []) 0 k (omega arith) ∙ h k l
    go k (inr q) = get_or_push old (place + 1) 0 k (omega arith) ∙ ap (λ j. j + 1) (sym q)

pub walked_on : (exits : List Exit) (w : Walk) (a b c : ℕ) → AreWalkedFrom exits w a b → IsWalkedAt exits w b → AreWalkedFrom exits w (b + 1) c → AreWalkedFrom exits w a c
walked_on exits w a b c f g h = λ k l m n. go k l m n (cases k)
  where
    cases : (k : ℕ) → (k < b) ⊎ ((k ≡ b) ⊎ (b + 1 ≤ k))
    cases k = grind arith

    go : (k : ℕ) → a ≤ k → k < c → k < length exits → (k < b) ⊎ ((k ≡ b) ⊎ (b + 1 ≤ k)) → IsWalkedAt exits w k
    go k l m n (inl q) = f k l q n
    go k l m n (inr (inl e)) = subst (λ j. IsWalkedAt exits w j) (sym e) g
    go k l m n (inr (inr q)) = h k q m n

-- a link that leads to a walked exit is drawn on to where that exit's link leads
pub links_drawn : (exits : List Exit) (w : Walk) (links : List ℕ) (place : ℕ) → AreLinksOf exits w links → place < length exits → slice_index links place < length exits → IsWalkedAt exits w (slice_index links place) → AreLinksOf exits w (set links place (slice_index links (slice_index links place)))
links_drawn exits w links place a l m h = record {
  count = length-set links place later ∙ a.count;
  onward = λ k n. onward k n (cases k);
  walked = λ k n. walked k n (cases k);
}
  where
    next : ℕ
    next = slice_index links place

    later : ℕ
    later = slice_index links next

    cases : (k : ℕ) → (k ≡ place) ⊎ (k ≢ place)
    cases k = go (in_two k place) (in_two place k)
      where
        go : (place < k) ⊎ (k ≤ place) → (k < place) ⊎ (place ≤ k) → (k ≡ place) ⊎ (k ≢ place)
        go (inl p) q = inr (λ e. omega arith)
        go (inr p) (inl q) = inr (λ e. omega arith)
        go (inr p) (inr q) = inl (omega arith)

    here : slice_index (set links place later) place ≡ later
    here = (let c = a.count in get_or-set_same links place later 0 (omega arith))

    far : place < later
    far = (let f = a.onward place l in let g = a.onward next m in omega arith)

    onward : (k : ℕ) → k < length exits → (k ≡ place) ⊎ (k ≢ place) → k < slice_index (set links place later) k
    onward k n (inl e) = subst (λ j. j < slice_index (set links place later) j) (sym e) (subst (λ j. place < j) (sym here) far)
    onward k n (inr e) = subst (λ j. k < j) (sym (get_or-set_other links place k later 0 e)) (a.onward k n)

    walked : (k : ℕ) → k < length exits → (k ≡ place) ⊎ (k ≢ place) → AreWalkedFrom exits w (k + 1) (slice_index (set links place later) k)
    walked k n (inl e) = subst (λ j. AreWalkedFrom exits w (j + 1) (slice_index (set links place later) j)) (sym e) (subst (λ j. AreWalkedFrom exits w (place + 1) j) (sym here) (walked_on exits w (place + 1) next later (a.walked place l) h (a.walked next m)))
    walked k n (inr e) = subst (λ j. AreWalkedFrom exits w (k + 1) j) (sym (get_or-set_other links place k later 0 e)) (a.walked k n)

pub links_later : (exits : List Exit) (w : Walk) (links : List ℕ) (place : ℕ) → AreLinksOf exits w links → place < length exits → slice_index links place < length exits → IsWalkedAt exits w (slice_index links place) → (place < slice_index links (slice_index links place)) × AreWalkedFrom exits w (place + 1) (slice_index links (slice_index links place))
links_later exits w links place a l m h = (
  (let f = a.onward place l in let g = a.onward (slice_index links place) m in omega arith),
  walked_on exits w (place + 1) (slice_index links place) (slice_index links (slice_index links place)) (a.walked place l) h (a.walked (slice_index links place) m),
)

-- links stay where an edge more is walked
pub links_stay : (exits : List Exit) (w new : Walk) (links : List ℕ) → ((k : ℕ) → get_or w.walked k true ≡ true → get_or new.walked k true ≡ true) → AreLinksOf exits w links → AreLinksOf exits new links
links_stay exits w new links h a = record {
  count = a.count;
  onward = a.onward;
  walked = λ k l j b c m d. h (get_or exits j d).edge (a.walked k l j b c m d);
}

pub kept_by_step : (w new : Walk) (to : Point) (n i : ℕ) → i < length w.walked → new ≡ reaching to n (along i w) → (k : ℕ) → get_or w.walked k true ≡ true → get_or new.walked k true ≡ true
kept_by_step w new to n i l e k h = ap (λ (v : Walk). get_or v.walked k true) e ∙ (ap (λ ms. get_or ms k true) (marks_after to n i w) ∙ stays_walked w.walked i k l h)

-- ---- the search
pub none_then : {X : Type 0} (r : Option X) {P Q : Type 0} → IfNone r P → (P → Q) → IfNone r Q
none_then None h f = f h
none_then (Some x) h f = h

same_itself : (p q : Point) → p ≡ q → is_same_point p q ≡ true
same_itself p q e = subst (λ (s : Point). is_same_point p s ≡ true) e (same_point_itself p)

-- where a turn from the direction begins
pub record IsSplitAt (exits : List Exit) (at : Point) (u : ℤ × ℤ) (n : ℕ) : Type 0 where
  pub past : (k : ℕ) (d : Exit) → n ≤ k → k < length exits → is_past at u (get_or exits k d).way ≡ true
  pub before : (k : ℕ) (d : Exit) → k < n → k < length exits → is_past at u (get_or exits k d).way ≡ false

-- the exit of an edge
pub record HasExit (edges : List Edge) (leftward : List Bool) (exits : List Exit) (k : ℕ) (v : Way) : Type 0 where
  pub place : ℕ
  pub within : place < length exits
  pub is : (d : Exit) → get_or exits place d ≡ record { way = way_at edges leftward k v; edge = k }

some_exit : (exits : List Exit) (i : ℕ) → i < length exits → Exit
some_exit [] i h = absurd (omega arith)
some_exit (x ∷ xs) i h = x

pub from_is : (w : Way) (p : Point) → is_from w p ≡ true → tail_of w ≡ p
from_is w p h = same_points_equal (tail_of w) p h

module _ (edges : List Edge) (leftward : List Bool) (exits : List Exit) (a : AreExitsOf edges leftward exits) (w : Walk) (at : Point) where
  pub found : (from place : ℕ) (x : Exit) → IsFirstFree exits w from place → place < length exits → x ≡ get_or exits place x → is_from x.way at ≡ true → IsFoundAt exits w at from x.edge
  found from place x f l e h = record {
    place = place;
    within = l;
    first = f;
    edge_is = λ d. ap (λ (y : Exit). y.edge) (get_or_default exits place d x l ∙ sym e);
    leaves = λ d. ap (λ (y : Exit). tail_of y.way) (get_or_default exits place d x l ∙ sym e) ∙ from_is x.way at h;
  }

  pub none_at_all : (from place : ℕ) → IsFirstFree exits w from place → length exits ≤ place → AreAllWalked exits w at from
  none_at_all from place f l = λ k d b m e. f.walked k b (omega arith) m

  pub none_from : (from place : ℕ) (x : Exit) → IsFirstFree exits w from place → place < length exits → x ≡ get_or exits place x → is_from x.way at ≡ false → AreNotBelow exits at from → AreAllWalked exits w at from
  none_from from place x f l e h n = λ k d b m t. go k d b m t (in_two place k)
    where
      go : (k : ℕ) (d : Exit) → from ≤ k → k < length exits → tail_of (get_or exits k d).way ≡ at → (k < place) ⊎ (place ≤ k) → IsWalkedAt exits w k
      go k d b m t (inl q) = f.walked k b q m
      go k d b m t (inr q) = absurd (
          let there : get_or exits place d ≡ x = get_or_default exits place d x l ∙ sym e in
          let onward = f.onward in
          let up : is_below (tail_of x.way) at ≡ false = subst (λ (y : Exit). is_below (tail_of y.way) at ≡ false) there (n place d onward l) in
          let down : is_below at (tail_of x.way) ≡ false = subst (λ (y : Exit). is_below at (tail_of y.way) ≡ false) there (subst (λ (s : Point). is_below s (tail_of (get_or exits place d).way) ≡ false) t (tails_rise edges leftward exits a place k d q m)) in
          let same : tail_of x.way ≡ at = same_place (tail_of x.way) at up down in
          true≢false (sym (same_itself (tail_of x.way) at same) ∙ h)
          )

  pub none_found : (from place : ℕ) → IsFirstFree exits w from place → ((d : Exit) → place < length exits → is_from (get_or exits place d).way at ≡ false) → AreNotBelow exits at from → AreAllWalked exits w at from
  none_found from place f h n = λ k d b m t. go k d b m t (in_two (length exits) place)
    where
      go : (k : ℕ) (d : Exit) → from ≤ k → k < length exits → tail_of (get_or exits k d).way ≡ at → (place < length exits) ⊎ (length exits ≤ place) → IsWalkedAt exits w k
      go k d b m t (inl l) = none_from from place (get_or exits place d) f l (get_or_default exits place d (get_or exits place d) l) (h d l) n k d b m t
      go k d b m t (inr l) = none_at_all from place f l k d b m t

  pub not_below : (from : ℕ) → IsPartitionPoint (λ x. is_below (tail_of x.way) at ≡ true) (λ x. is_below (tail_of x.way) at ≡ false) exits from → AreNotBelow exits at from
  not_below from p = λ k d b l. p.1 k d b l

  past_not_below : (u : ℤ × ℤ) (v : Way) → is_past at u v ≡ true → is_below (tail_of v) at ≡ false
  past_not_below u v h = go (is_from v at) refl h
    where
      go : (b : Bool) → is_from v at ≡ b → (if b then is_met_sooner right u (aim_of v) else is_below at (tail_of v)) ≡ true → is_below (tail_of v) at ≡ false
      go true e h = subst (λ (s : Point). is_below s at ≡ false) (sym (same_points_equal (tail_of v) at e)) (point_irreflexive at)
      go false e h = below-one_way at (tail_of v) h

  not_not : (b : Bool) → not b ≡ false → b ≡ true
  not_not true h = refl
  not_not false h = absurd (true≢false h)

  not_yet : (b : Bool) → not b ≡ true → b ≡ false
  not_yet true h = absurd (true≢false (sym h))
  not_yet false h = refl

  pub split_at : (u : ℤ × ℤ) (n : ℕ) → n ≤ length exits → IsPartitionPoint (λ x. not (is_past at u x.way) ≡ true) (λ x. not (is_past at u x.way) ≡ false) exits n → IsSplitAt exits at u n
  split_at u n l p = record {
    past = λ k d b m. not_not (is_past at u (get_or exits k d).way) (p.1 k d b m);
    before = λ k d b m. not_yet (is_past at u (get_or exits k d).way) (p.0 k d (omega arith) b);
  }

  -- the same for a direction that is told otherwise
  pub split_there : (u z : ℤ × ℤ) (n : ℕ) → z ≡ u → IsSomewhere u → n ≤ length exits → (IsSomewhere z → IsPartitionPoint (λ x. not (is_past at z x.way) ≡ true) (λ x. not (is_past at z x.way) ≡ false) exits n) → IsSplitAt exits at u n
  split_there u z n e s l p = subst (λ v. IsSplitAt exits at v n) e (split_at z n l (p (subst (λ v. IsSomewhere v) (sym e) s)))

  pub split_not_below : (u : ℤ × ℤ) (n : ℕ) → IsSplitAt exits at u n → AreNotBelow exits at n
  split_not_below u n s = λ k d b l. past_not_below u (get_or exits k d).way (s.past k d b l)

  -- ---- the edge that is found
  module _ (sides : length leftward ≡ length edges) (marks : length w.walked ≡ length edges) where
    end_at : (x : Exit) → IsExitOf edges leftward x → tail_of x.way ≡ at → IsEndAt edges x.edge at
    end_at x o t = record {
      within = o.within;
      end = λ d. (let v : Way = record { edge = d; is_leftward = true } in subst (λ (s : Point). is_end_of (get_or edges x.edge d) s ≡ true) t (subst (λ (e : Edge). is_end_of e (tail_of x.way) ≡ true) (ap (λ (y : Way). y.edge) (o.way v)) (tail_is_end x.way)));
    }

    pub found_open : (from i : ℕ) → IsFoundAt exits w at from i → IsOpenAt edges w i at
    found_open from i f =
        let d = some_exit exits f.place f.within in
        let x = get_or exits f.place d in
        let o = exit_there edges leftward exits a f.place d f.within in
        let end : IsEndAt edges i at = subst (λ j. IsEndAt edges j at) (f.edge_is d) (end_at x o (f.leaves d)) in
        let within = end.within in
        record {
          end = end;
          left = λ c. get_or_default w.walked i c true (omega arith) ∙ (ap (λ j. get_or w.walked j true) (sym (f.edge_is d)) ∙ f.first.free d f.within);
        }

    -- its way is that of the exit
    found_way : (from i : ℕ) (f : IsFoundAt exits w at from i) (d : Exit) (v : Way) → (get_or exits f.place d).way ≡ way_at edges leftward i v
    found_way from i f d v = (exit_there edges leftward exits a f.place d f.within).way v ∙ ap (λ j. way_at edges leftward j v) (f.edge_is d)

    pub found_leaves : (from i : ℕ) → IsFoundAt exits w at from i → (v : Way) → is_from (way_at edges leftward i v) at ≡ true
    found_leaves from i f v = let d : Exit = record { way = v; edge = i } in subst (λ (y : Way). is_from y at ≡ true) (found_way from i f d v) (same_itself (tail_of (get_or exits f.place d).way) at (f.leaves d))

    has_exit : (k : ℕ) (v : Way) → k < length edges → HasExit edges leftward exits k v
    has_exit k v l =
        let x : Exit = record { way = way_at edges leftward k v; edge = k } in
        let c = (a.exact x).1 (record { within = l; way = λ d. way_default edges leftward k v d sides l }) in
        record { place = c.0; within = c.1; is = λ d. get_or_default exits c.0 d x c.1 ∙ c.2 }

    -- an edge whose exit is walked is not open
    not_walked : (k : ℕ) (v : Way) (h : HasExit edges leftward exits k v) → (d : Exit) → IsOpenAt edges w k at → IsWalkedAt exits w h.place → ⊥
    not_walked k v h d o done = true≢false (sym (done d) ∙ (ap (λ (y : Exit). get_or w.walked y.edge true) (h.is d) ∙ o.left true))

    exit_leaves : (k : ℕ) (v : Way) (h : HasExit edges leftward exits k v) (d : Exit) → is_from (way_at edges leftward k v) at ≡ true → tail_of (get_or exits h.place d).way ≡ at
    exit_leaves k v h d t = ap (λ (y : Exit). tail_of y.way) (h.is d) ∙ from_is (way_at edges leftward k v) at t

    -- where all exits of the point are walked, no open edge leads away
    pub none_leaves : (from : ℕ) → IsPartitionPoint (λ x. is_below (tail_of x.way) at ≡ true) (λ x. is_below (tail_of x.way) at ≡ false) exits from → from ≤ length exits → AreAllWalked exits w at from → (k : ℕ) (v : Way) → IsOpenAt edges w k at → is_from (way_at edges leftward k v) at ≡ false
    none_leaves from p n h k v o = go (is_from (way_at edges leftward k v) at) refl
      where
        go : (b : Bool) → is_from (way_at edges leftward k v) at ≡ b → is_from (way_at edges leftward k v) at ≡ false
        go false e = e
        go true e = absurd (
            let t = has_exit k v o.end.within in
            let d : Exit = record { way = v; edge = k } in
            let here = exit_leaves k v t d e in
            at_or_after t d here (in_two from t.place)
            )
          where
            at_or_after : (t : HasExit edges leftward exits k v) (d : Exit) → tail_of (get_or exits t.place d).way ≡ at → (t.place < from) ⊎ (from ≤ t.place) → ⊥
            at_or_after t d here (inl q) = true≢false (sym (p.0 t.place d (omega arith) q) ∙ subst (λ (s : Point). is_below s at ≡ false) (sym here) (point_irreflexive at))
            at_or_after t d here (inr q) = not_walked k v t d o (h t.place d q t.within here)

    -- ---- it is the first one
    aim_at : (v : Way) → tail_of v ≡ at → (P : ℤ × ℤ → Type 0) → P (aim_of v) → P (aim at (other_end_of v.edge at))
    aim_at v t P h = subst (λ (s : Point). P (aim s (other_end_of v.edge s))) t h

    past_is : (u : ℤ × ℤ) (v : Way) → tail_of v ≡ at → is_past at u v ≡ is_met_sooner right u (aim_of v)
    past_is u v t = ap (λ b. if b then is_met_sooner right u (aim_of v) else is_below at (tail_of v)) (same_itself (tail_of v) at t)

    before_is : (x y : Exit) → tail_of x.way ≡ at → tail_of y.way ≡ at → is_met_before x y ≡ is_met_sooner right (aim_of x.way) (aim_of y.way)
    before_is x y s t = ap (λ b. if b then is_met_sooner right (aim_of x.way) (aim_of y.way) else is_below (tail_of x.way) (tail_of y.way)) (same_itself (tail_of y.way) (tail_of x.way) (t ∙ sym s))

    not_sooner : (u : ℤ × ℤ) (x y : Exit) → IsSomewhere u → tail_of x.way ≡ at → tail_of y.way ≡ at → ((is_past at u x.way ≡ false) × (is_past at u y.way ≡ true)) ⊎ ((is_past at u x.way ≡ is_past at u y.way) × (is_met_before x y ≡ false)) → is_met_sooner u (aim_of x.way) (aim_of y.way) ≡ false
    not_sooner u x y n s t h =
        sooner_from right u (aim_of x.way) (aim_of y.way) right_somewhere n (way_somewhere x.way) (way_somewhere y.way)
        ∙ go (is_met_sooner right u (aim_of x.way)) (is_met_sooner right u (aim_of y.way)) (is_met_sooner right (aim_of x.way) (aim_of y.way)) (past_is u x.way s) (past_is u y.way t) (before_is x y s t) h
      where
        first_no : (i j m p q b : Bool) → p ≡ i → q ≡ j → b ≡ m → ((p ≡ false) × (q ≡ true)) ⊎ ((p ≡ q) × (b ≡ false)) → is_first_by i j m ≡ false
        first_no true j m p q b e f g (inl h) = absurd (true≢false (sym e ∙ h.0))
        first_no false true m p q b e f g (inl h) = refl
        first_no false false m p q b e f g (inl h) = absurd (true≢false (sym h.1 ∙ f))
        first_no true true m p q b e f g (inr h) = sym g ∙ h.1
        first_no true false m p q b e f g (inr h) = absurd (true≢false (sym e ∙ (h.0 ∙ f)))
        first_no false true m p q b e f g (inr h) = refl
        first_no false false m p q b e f g (inr h) = sym g ∙ h.1

        go : (i j m : Bool) → is_past at u x.way ≡ i → is_past at u y.way ≡ j → is_met_before x y ≡ m → ((is_past at u x.way ≡ false) × (is_past at u y.way ≡ true)) ⊎ ((is_past at u x.way ≡ is_past at u y.way) × (is_met_before x y ≡ false)) → is_first_by i j m ≡ false
        go i j m e f g h = first_no i j m (is_past at u x.way) (is_past at u y.way) (is_met_before x y) e f g h

    module _ (u : ℤ × ℤ) (n : IsSomewhere u) (split : ℕ) (s : IsSplitAt exits at u split) (from i : ℕ) (f : IsFoundAt exits w at from i) (v : Way) where
      d0 : Exit
      d0 = record { way = v; edge = i }

      -- the exit of each open edge that leads away stands after the found one, or is met later
      abbrev StandsAfter : ℕ → Type 0
      StandsAfter j = ((is_past at u (get_or exits j d0).way ≡ false) × (is_past at u (get_or exits f.place d0).way ≡ true)) ⊎ ((is_past at u (get_or exits j d0).way ≡ is_past at u (get_or exits f.place d0).way) × (is_met_before (get_or exits j d0) (get_or exits f.place d0) ≡ false))

      taken_by : ((k : ℕ) (h : HasExit edges leftward exits k v) → IsOpenAt edges w k at → tail_of (get_or exits h.place d0).way ≡ at → StandsAfter h.place) → (k : ℕ) → IsOpenAt edges w k at → is_taken_before at u (way_at edges leftward k v) (way_at edges leftward i v) ≡ false
      taken_by after k o = go (is_from (way_at edges leftward k v) at) refl
        where
          here : Way
          here = way_at edges leftward i v

          there : Way
          there = way_at edges leftward k v

          leaves : is_from here at ≡ true
          leaves = found_leaves from i f v

          go : (b : Bool) → is_from there at ≡ b → is_taken_before at u there here ≡ false
          go false e = ap (λ c. is_first_by c (is_from here at) (is_met_sooner u (aim at (other_end_of there.edge at)) (aim at (other_end_of here.edge at)))) e
              ∙ ap (λ c. is_first_by false c (is_met_sooner u (aim at (other_end_of there.edge at)) (aim at (other_end_of here.edge at)))) leaves
          go true e = ap (λ c. is_first_by c (is_from here at) (is_met_sooner u (aim at (other_end_of there.edge at)) (aim at (other_end_of here.edge at)))) e
              ∙ (ap (λ c. is_first_by true c (is_met_sooner u (aim at (other_end_of there.edge at)) (aim at (other_end_of here.edge at)))) leaves
              ∙ later)
            where
              t : HasExit edges leftward exits k v
              t = has_exit k v o.end.within

              x : Exit
              x = get_or exits t.place d0

              y : Exit
              y = get_or exits f.place d0

              at_x : tail_of x.way ≡ at
              at_x = exit_leaves k v t d0 e

              plain : is_met_sooner u (aim_of x.way) (aim_of y.way) ≡ false
              plain = not_sooner u x y n at_x (f.leaves d0) (after k t o at_x)

              ways : is_met_sooner u (aim_of there) (aim_of here) ≡ false
              ways = subst (λ (z : Way). is_met_sooner u (aim_of z) (aim_of here) ≡ false) (ap (λ (z : Exit). z.way) (t.is d0)) (subst (λ (z : Way). is_met_sooner u (aim_of x.way) (aim_of z) ≡ false) (found_way from i f d0 v) plain)

              later : is_met_sooner u (aim at (other_end_of there.edge at)) (aim at (other_end_of here.edge at)) ≡ false
              later = aim_at there (from_is there at e) (λ b. is_met_sooner u b (aim at (other_end_of here.edge at)) ≡ false) (aim_at here (from_is here at leaves) (λ b. is_met_sooner u (aim_of there) b ≡ false) ways)

      -- found after the direction back
      after_split : from ≡ split → (k : ℕ) (h : HasExit edges leftward exits k v) → IsOpenAt edges w k at → tail_of (get_or exits h.place d0).way ≡ at → StandsAfter h.place
      after_split e k h o t = go (in_two split h.place) (in_two f.place h.place)
        where
          onward : from ≤ f.place
          onward = f.first.onward

          here : is_past at u (get_or exits f.place d0).way ≡ true
          here = s.past f.place d0 (omega arith) f.within

          go : (h.place < split) ⊎ (split ≤ h.place) → (h.place < f.place) ⊎ (f.place ≤ h.place) → StandsAfter h.place
          go (inl p) q = inl (s.before h.place d0 p h.within, here)
          go (inr p) (inl q) = absurd (not_walked k v h d0 o (f.first.walked h.place (omega arith) q h.within))
          go (inr p) (inr q) = inr (s.past h.place d0 p h.within ∙ sym here, not_ahead edges leftward exits a f.place h.place d0 q h.within)

      pub first_after : from ≡ split → (k : ℕ) → IsOpenAt edges w k at → is_taken_before at u (way_at edges leftward k v) (way_at edges leftward i v) ≡ false
      first_after e = taken_by (after_split e)

      -- none was found after the direction back, and one from the first exit of the point on
      after_round : AreAllWalked exits w at split → AreNotBelow exits at from → IsPartitionPoint (λ x. is_below (tail_of x.way) at ≡ true) (λ x. is_below (tail_of x.way) at ≡ false) exits from → (k : ℕ) (h : HasExit edges leftward exits k v) → IsOpenAt edges w k at → tail_of (get_or exits h.place d0).way ≡ at → StandsAfter h.place
      after_round done low p k h o t = go (in_two split h.place) (in_two split f.place) (in_two f.place h.place) (in_two from h.place)
        where
          free : IsWalkedAt exits w f.place → ⊥
          free z = true≢false (sym (z d0) ∙ f.first.free d0 f.within)

          go : (h.place < split) ⊎ (split ≤ h.place) → (f.place < split) ⊎ (split ≤ f.place) → (h.place < f.place) ⊎ (f.place ≤ h.place) → (h.place < from) ⊎ (from ≤ h.place) → StandsAfter h.place
          go (inr b) c q r = absurd (not_walked k v h d0 o (done h.place d0 b h.within t))
          go (inl b) (inr c) q r = absurd (free (done f.place d0 c f.within (f.leaves d0)))
          go (inl b) (inl c) (inl q) (inl r) = absurd (true≢false (sym (p.0 h.place d0 (omega arith) r) ∙ subst (λ (z : Point). is_below z at ≡ false) (sym t) (point_irreflexive at)))
          go (inl b) (inl c) (inl q) (inr r) = absurd (not_walked k v h d0 o (f.first.walked h.place r q h.within))
          go (inl b) (inl c) (inr q) r = inr (s.before h.place d0 b h.within ∙ sym (s.before f.place d0 c f.within), not_ahead edges leftward exits a f.place h.place d0 q h.within)

      pub first_round : AreAllWalked exits w at split → IsPartitionPoint (λ x. is_below (tail_of x.way) at ≡ true) (λ x. is_below (tail_of x.way) at ≡ false) exits from → (k : ℕ) → IsOpenAt edges w k at → is_taken_before at u (way_at edges leftward k v) (way_at edges leftward i v) ≡ false
      first_round done p = taken_by (after_round done (not_below from p) p)
