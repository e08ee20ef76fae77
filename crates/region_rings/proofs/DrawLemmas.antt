-- Whole walks, step by step.
use Rattle.std.proofs.Common.{◌≡◌, ◌≢◌, ◌⊎◌, inl, inr, ℕ, ◌<◌, refl, sym, ◌∙◌, ap, subst, arith, Bool, true, false, true≢false, ◌||◌, if◌then◌else◌, Option, Some, None, IfSome, IfNone, eqb, List, length, count_by, get_or, set, Contains}
use Rattle.std.proofs.lemmas.Bool.Decides.{Decides-eqb}
use Rattle.std.proofs.lemmas.List.{get_or_default, get_or-set_same, get_or-set_other}
use Rattle.plane_edge.specs.declared.edge.Edge.{Edge}
use Rattle.plane_edge.specs.declared.point.Point.{Point}
use Rattle.plane_edge.specs.Edges.{is_same_point, IsRisingEdges}
use Rattle.plane_edge.specs.Line.{is_end_of}
use Rattle.plane_edge.proofs.OrderLemmas.{same_point_itself}
use Rattle.region_rings.specs.declared.spoke.Spoke.{Spoke}
use Rattle.region_rings.specs.declared.way.Way.{Way}
use Rattle.region_rings.specs.Spokes.{spoke, IsEndAt, AreSpokesOf, IsFirstAt}
use Rattle.region_rings.specs.Ways.{other_end_of, way_at, tail_of}
use Rattle.region_rings.specs.Walks.{Walk, along, beginning, onto, cut_at, is_visited, reaching, edges_left, IsOpenAt, IsNoneOpenAt, IsAtRest}
use Rattle.region_rings.proofs.Underway.{IsUnderway}
use Rattle.region_rings.proofs.CourseLemmas.{along_edge, IsStepping, gone}
use Rattle.region_rings.proofs.MarkLemmas.{count-walked}
use Rattle.region_rings.proofs.RestLemmas.{begun, at_rest}

-- ---- ends
or_right : (b : Bool) → (b || true) ≡ true
or_right true = refl
or_right false = refl

low_end : (e : Edge) → is_end_of e e.low ≡ true
low_end e = ap (λ b. b || is_same_point e.high e.low) (same_point_itself e.low)

high_end : (e : Edge) → is_end_of e e.high ≡ true
high_end e = ap (λ b. is_same_point e.low e.high || b) (same_point_itself e.high) ∙ or_right (is_same_point e.low e.high)

other_is_end : (e : Edge) (p : Point) → is_end_of e (other_end_of e p) ≡ true
other_is_end e p = go (is_same_point e.low p)
  where
    go : (b : Bool) → is_end_of e (if b then e.high else e.low) ≡ true
    go true = high_end e
    go false = low_end e

end_at : (edges : List Edge) (i : ℕ) (e : Edge) (p : Point) → i < length edges → e ≡ get_or edges i e → is_end_of e p ≡ true → IsEndAt edges i p
end_at edges i e p l is t = record { within = l; end = λ d. ap (λ (f : Edge). is_end_of f p) (get_or_default edges i d e l ∙ sym is) ∙ t }

-- the other end of an edge
pub to_end : (edges : List Edge) (w : Walk) (i : ℕ) (e : Edge) (at to : Point) → IsOpenAt edges w i at → e ≡ get_or edges i e → to ≡ other_end_of e at → IsEndAt edges i to
to_end edges w i e at to o is q = end_at edges i e to o.end.within is (subst (λ (p : Point). is_end_of e p ≡ true) (sym q) (other_is_end e at))

pub tail_is_end : (w : Way) → is_end_of w.edge (tail_of w) ≡ true
tail_is_end w = go w.is_leftward
  where
    go : (b : Bool) → is_end_of w.edge (if b then w.edge.low else w.edge.high) ≡ true
    go true = low_end w.edge
    go false = high_end w.edge

-- the end at which a walk begins
pub tail_end : (edges : List Edge) (leftward : List Bool) (i : ℕ) (w : Way) (at : Point) → i < length edges → ((d : Way) → w ≡ way_at edges leftward i d) → at ≡ tail_of w → IsEndAt edges i at
tail_end edges leftward i w at l is q = end_at edges i w.edge at l (ap (λ (v : Way). v.edge) (is w)) (subst (λ (p : Point). is_end_of w.edge p ≡ true) (sym q) (tail_is_end w))

-- an edge that ends at the point has a spoke there
pub with_spoke : (edges : List Edge) (spokes : List Spoke) (i : ℕ) (p : Point) → AreSpokesOf edges spokes → IsEndAt edges i p → (edge : ℕ) × Contains spokes (spoke p edge)
with_spoke edges spokes i p a t = (i, (a.exact i p).1 t)

-- ---- marks
pub marks_after : (p : Point) (n i : ℕ) (w : Walk) → (reaching p n (along i w)).walked ≡ set w.walked i true
marks_after p n i w = go (is_visited p n (along i w))
  where
    go : (b : Bool) → (if b then cut_at (get_or w.places n 0) (along i w) else onto p n (along i w)).walked ≡ set w.walked i true
    go true = refl
    go false = refl

in_two : (i j : ℕ) → (i ≡ j) ⊎ (i ≢ j)
in_two i j = go (eqb i j) refl
  where
    go : (b : Bool) → eqb i j ≡ b → (i ≡ j) ⊎ (i ≢ j)
    go true h = inl ((Decides-eqb i j).0 h)
    go false h = inr (λ e. true≢false (sym ((Decides-eqb i j).1 e) ∙ h))

pub stays_walked : (ms : List Bool) (i k : ℕ) → i < length ms → get_or ms k true ≡ true → get_or (set ms i true) k true ≡ true
stays_walked ms i k l h = go (in_two k i)
  where
    go : (k ≡ i) ⊎ (k ≢ i) → get_or (set ms i true) k true ≡ true
    go (inl e) = ap (λ j. get_or (set ms i true) j true) e ∙ get_or-set_same ms i true true l
    go (inr n) = get_or-set_other ms i k true true n ∙ h

-- ---- the walk
pub record IsWalking (edges : List Edge) (spokes : List Spoke) (old w : Walk) (start at : Point) (first : ℕ) (next : Option ℕ) : Type 0 where
  pub under : IsUnderway edges spokes w start at
  pub some : IfSome next (λ i. IsOpenAt edges w i at)
  pub none : IfNone next (IsNoneOpenAt edges w at)
  pub kept : (k : ℕ) → get_or old.walked k true ≡ true → get_or w.walked k true ≡ true
  pub reached : (get_or w.walked first true ≡ true) ⊎ (next ≡ Some first)

pub walking_begun : (edges : List Edge) (spokes : List Spoke) (old w : Walk) (at : Point) (n first : ℕ) → IsAtRest edges spokes old → IsFirstAt spokes at n → IsEndAt edges first at → get_or old.walked first true ≡ false → w ≡ beginning at n old → IsWalking edges spokes old w at at first (Some first)
walking_begun edges spokes old w at n first r f t left is =
    let within = t.within in
    let marks = r.marks in
    let now : IsWalking edges spokes old (beginning at n old) at at first (Some first) = record {
      under = begun edges spokes old at n r f;
      some = record { end = t; left = λ d. get_or_default old.walked first d true (omega arith) ∙ left };
      none = tt;
      kept = λ k h. h;
      reached = inr refl;
    } in
    subst (λ (v : Walk). IsWalking edges spokes old v at at first (Some first)) (sym is) now

some_is : (i j : ℕ) → Some i ≡ Some j → i ≡ j
some_is i j h = cc

pub walking_on : (edges : List Edge) (spokes : List Spoke) (old w new : Walk) (start at to : Point) (first n i : ℕ) (e : Edge) (next : Option ℕ) → IsRisingEdges edges → IsWalking edges spokes old w start at first (Some i) → e ≡ get_or edges i e → to ≡ other_end_of e at → IsFirstAt spokes to n → new ≡ reaching to n (along i w) →
    IfSome next (λ j. IsOpenAt edges new j to) → IfNone next (IsNoneOpenAt edges new to) → IsWalking edges spokes old new start to first next
walking_on edges spokes old w new start at to first n i e next r h is q f s some none =
    let step : IsStepping edges spokes w start at (other_end_of e at) n i e = record {
      rising = r;
      under = h.under;
      left = h.some;
      is = is;
      goes = along_edge e at (ap (λ (d : Edge). is_end_of d at) is ∙ h.some.end.end e);
      number = subst (λ (p : Point). IsFirstAt spokes p n) q f;
    } in
    let there : IsUnderway edges spokes (reaching (other_end_of e at) n (along i w)) start (other_end_of e at) = gone edges spokes w start at (other_end_of e at) n i e step in
    let here : IsUnderway edges spokes (reaching to n (along i w)) start to = subst (λ (p : Point). IsUnderway edges spokes (reaching p n (along i w)) start p) (sym q) there in
    let marks : new.walked ≡ set w.walked i true = ap (λ (v : Walk). v.walked) s ∙ marks_after to n i w in
    let long = h.under.marks in
    let less = h.some.end.within in
    let within : i < length w.walked = omega arith in
    record {
      under = subst (λ (v : Walk). IsUnderway edges spokes v start to) (sym s) here;
      some = some;
      none = none;
      kept = λ k g. ap (λ ms. get_or ms k true) marks ∙ stays_walked w.walked i k within (h.kept k g);
      reached = inl (ap (λ ms. get_or ms first true) marks ∙ reached within h.reached);
    }
  where
    reached : i < length w.walked → (get_or w.walked first true ≡ true) ⊎ (Some i ≡ Some first) → get_or (set w.walked i true) first true ≡ true
    reached l (inl g) = stays_walked w.walked i first l g
    reached l (inr g) = ap (λ j. get_or (set w.walked i true) j true) (sym (some_is i first g)) ∙ get_or-set_same w.walked i true true l

-- one edge less is left
pub walking_less : (edges : List Edge) (w new : Walk) (at to : Point) (n i : ℕ) (e : Edge) → IsOpenAt edges w i at → new ≡ reaching to n (along i w) → count_by (λ _. true) (edges_left edges new.walked) < count_by (λ _. true) (edges_left edges w.walked)
walking_less edges w new at to n i e o s =
    let marks : new.walked ≡ set w.walked i true = ap (λ (v : Walk). v.walked) s ∙ marks_after to n i w in
    let one = count-walked (λ _. true) edges w.walked i e o.end.within (o.left true) in
    let same : count_by (λ _. true) (edges_left edges new.walked) ≡ count_by (λ _. true) (edges_left edges (set w.walked i true)) = ap (λ ms. count_by (λ _. true) (edges_left edges ms)) marks in
    omega arith

pub walking_done : (edges : List Edge) (spokes : List Spoke) (old w : Walk) (start at : Point) (first : ℕ) → IsWalking edges spokes old w start at first None → IsAtRest edges spokes w
walking_done edges spokes old w start at first h = at_rest edges spokes w start at h.under h.none

pub first_walked : (edges : List Edge) (spokes : List Spoke) (old w : Walk) (start at : Point) (first : ℕ) → IsWalking edges spokes old w start at first None → get_or w.walked first true ≡ true
first_walked edges spokes old w start at first h = go h.reached
  where
    none : None ≡ Some first → get_or w.walked first true ≡ true
    none e = cc

    go : (get_or w.walked first true ≡ true) ⊎ (None ≡ Some first) → get_or w.walked first true ≡ true
    go (inl g) = g
    go (inr e) = none e
