-- In one strip: the places of the borders, from left to right, decide what is inside two areas.
use Rattle.std.proofs.Common.{◌≡◌, ℕ, ◌+◌, ◌%◌, ◌<◌, ◌≤◌, inl, inr, refl, sym, ◌∙◌, ap, subst, arith, Bool, true, false, ◌&&◌, cond, ltb, int_lt, List, [], ◌∷◌, length, get_or, take, drop, All, Contains, count_by, ℤ, pos, ◌+ℤ◌, ◌*ℤ◌, ◌≤ℤ◌, ◌<ℤ◌}
use Rattle.std.specs.List.{AllPairs}
use Rattle.std.proofs.lemmas.Bool.{cases_order, cases_lt, lt-ltb, le-ltb, eqb-true, eq-eqb}
use Rattle.std.proofs.lemmas.List.{get_or-take, get_or-drop, length-take-le, length-drop}
use Rattle.std.proofs.lemmas.List.Elements.{All-from_get_or, All-contains, All-weaker}
use Rattle.std.proofs.lemmas.List.Sums.{sum_by-take-drop}
use Rattle.plane_edge.specs.declared.edge.Edge.{Edge}
use Rattle.plane_edge.specs.declared.spot.Spot.{Spot}
use Rattle.plane_edge.specs.Plane.{is_crossed, IsInside, rise}
use Rattle.plane_strip.specs.Strip.{IsPlanar, InStrip, NoEndBetween, Spans, lead}
use Rattle.plane_edge.specs.Edges.{is_reached, IsClosed}
use Rattle.plane_strip.proofs.StripLemmas.{spans, spanned, height-y, up, lead-swap}
use Rattle.plane_strip.proofs.MidLemmas.{mid_strip, is_crossed-spanned, is_crossed-other, spans_or, mid-strip-at, side-lead, lead-self, lt_true, lt_false}
use Rattle.plane_strip.proofs.LeastLemmas.{reach_true, reach_parts, candidate}
use Rattle.plane_strip.proofs.CoverLemmas.{IsInside-same}
use Rattle.whole_ring.proofs.Laws.{*ℤ_comm, *ℤ_assoc}
use Rattle.whole_ring.proofs.Ring.{ring, var, con, ◌⊕◌, ◌⊗◌}
use Rattle.whole_ring.proofs.Signs.{lin, le-mul, lt-mul, le-cancel}
use Rattle.coverage_check.specs.declared.border.Border.{Border}
use Rattle.coverage_check.specs.Walk.{is_of, is_inside_after, IsAlone, AreTwoLeast}
use Rattle.coverage_check.specs.Strips.{mid_of, IsBetween, IsFirstBetween, IsNoneBetween}
use Rattle.coverage_check.proofs.Counts.{count_same, count_none}

pub record IsStrip (h k : ℤ) (es : List Edge) (odds : ℕ → List Edge) (bs : List Border) : Type 0 where
  pub rising : h <ℤ k
  pub planar : IsPlanar es
  pub ends : All (NoEndBetween h k) es
  pub held : (a : ℕ) → All (Contains es) (odds a)
  pub closed : (a : ℕ) → IsClosed (odds a)
  pub spans_all : All (λ b. Spans h k b.edge) bs
  pub sorted : AllPairs (λ b c. pos 0 <ℤ lead c.edge b.edge (h +ℤ k) (pos 2)) bs
  pub counts : (a : ℕ) (p : Edge → Bool) → ((e : Edge) → Contains es e → p e ≡ true → Spans h k e) → count_by p (odds a) ≡ count_by (λ b. is_of a b && p b.edge) bs
  pub complete : (e : Edge) → Contains es e → Spans h k e → (i : ℕ) × ((i < length bs) × ((d : Border) → (get_or bs i d).edge ≡ e))

-- ---- which borders are crossed from the place of one
crossed_at : (h k : ℤ) (es : List Edge) (odds : ℕ → List Edge) (bs : List Border) (s : IsStrip h k es odds bs) (i j : ℕ) (d : Border) → i < length bs → j < length bs →
    is_crossed (get_or bs j d).edge (mid_of h k (get_or bs i d).edge) ≡ ltb i j
crossed_at h k es odds bs s i j d hi hj =
    let e = (get_or bs i d).edge in
    let f = (get_or bs j d).edge in
    let t = mid_of h k e in
    let pe = s.spans_all i d hi in
    let pf = s.spans_all j d hj in
    let by_side : is_crossed f t ≡ int_lt (pos 0) (lead f e (h +ℤ k) (pos 2)) = is_crossed-spanned h k f t (mid-strip-at h k e s.rising pe) pf ∙ ap (λ z. int_lt (pos 0) z) (side-lead f e (h +ℤ k) (pos 2)) in
    elim (cases_order i j) [
      | inl same ↦ by_side ∙ lt_false (pos 0) (lead f e (h +ℤ k) (pos 2)) (let z = ap (λ n. lead (get_or bs n d).edge e (h +ℤ k) (pos 2)) same in let w = lead-self e (h +ℤ k) (pos 2) in omega (arith, lin)) ∙ sym (le-ltb i j (omega arith))
      | inr (inl l) ↦ by_side ∙ lt_true (pos 0) (lead f e (h +ℤ k) (pos 2)) (s.sorted i j d l hj) ∙ sym (lt-ltb i j l)
      | inr (inr l) ↦ by_side ∙ lt_false (pos 0) (lead f e (h +ℤ k) (pos 2)) (let z = s.sorted j i d l hi in let w = lead-swap e f (h +ℤ k) (pos 2) in omega (arith, lin)) ∙ sym (le-ltb i j (omega arith))
    ]

-- an edge that is crossed in the strip spans it
crossed_spans : (h k : ℤ) (e : Edge) (t : Spot) → InStrip h k t.y t.m → NoEndBetween h k e → is_crossed e t ≡ true → Spans h k e
crossed_spans h k e t i n c = elim (spans_or h k e) [
  | inl p ↦ p
  | inr out ↦ absurd (clash (is_crossed e t) c (is_crossed-other h k e t i n out))
]
  where
    clash : (b : Bool) → b ≡ true → b ≡ false → ⊥
    clash b p q = cc

-- ---- what is inside at the place of a border
and_false : (x y : Bool) → y ≡ false → (x && y) ≡ false
and_false true y e = e
and_false false y e = refl

and_true : (x y : Bool) → y ≡ true → (x && y) ≡ x
and_true true y e = e
and_true false y e = refl

apart_counts : (h k : ℤ) (es : List Edge) (odds : ℕ → List Edge) (bs : List Border) (s : IsStrip h k es odds bs) (i a : ℕ) (d : Border) → i < length bs →
    count_by (λ b. is_of a b && is_crossed b.edge (mid_of h k (get_or bs i d).edge)) bs ≡ count_by (λ b. is_of a b) (drop (i + 1) bs)
apart_counts h k es odds bs s i a d hi =
    let t = mid_of h k (get_or bs i d).edge in
    let p : Border → Bool = λ b. is_of a b && is_crossed b.edge t in
    let front : count_by p (take (i + 1) bs) ≡ 0 = count_none p (take (i + 1) bs) (All-from_get_or (λ b. p b ≡ false) (take (i + 1) bs) d (λ j l.
    (let lj : j < i + 1 = omega (arith, length-take-le (i + 1) bs (omega arith)) in
    ap (λ b. p b) (get_or-take (i + 1) bs j d lj) ∙ and_false (is_of a (get_or bs j d)) (is_crossed (get_or bs j d).edge t) (crossed_at h k es odds bs s i j d hi (omega arith) ∙ le-ltb i j (omega arith))))) in
    let back : count_by p (drop (i + 1) bs) ≡ count_by (λ b. is_of a b) (drop (i + 1) bs) = count_same p (λ b. is_of a b) (drop (i + 1) bs) (All-from_get_or (λ b. p b ≡ is_of a b) (drop (i + 1) bs) d (λ j l.
    (let lj : i + 1 + j < length bs = omega (arith, length-drop (i + 1) bs) in
    let e = get_or-drop (i + 1) bs j d in
    ap (λ b. p b) e ∙ and_true (is_of a (get_or bs (i + 1 + j) d)) (is_crossed (get_or bs (i + 1 + j) d).edge t) (crossed_at h k es odds bs s i (i + 1 + j) d hi lj ∙ lt-ltb i (i + 1 + j) (omega arith)) ∙ ap (λ b. is_of a b) (sym e)))) in
    omega (arith, sum_by-take-drop (λ b. cond (p b) 1 0) bs (i + 1), front, back)

-- an even number of an area's borders are in the strip
even_in_all : (h k : ℤ) (es : List Edge) (odds : ℕ → List Edge) (bs : List Border) (s : IsStrip h k es odds bs) (a : ℕ) → count_by (λ b. is_of a b) bs % 2 ≡ 0
even_in_all h k es odds bs s a =
    let y = h +ℤ k in
    let strip = mid_strip h k s.rising in
    let spanning : (e : Edge) → Contains es e → is_reached y (pos 2) e ≡ true → Spans h k e = λ e m r. (let q = reach_parts (e.low.y *ℤ pos 2) y (e.high.y *ℤ pos 2) r in spans h k e y (pos 2) strip (All-contains (NoEndBetween h k) es e s.ends m) q.0 q.1) in
    let one = s.counts a (λ e. is_reached y (pos 2) e) spanning in
    let two = count_same (λ b. is_of a b && is_reached y (pos 2) b.edge) (λ b. is_of a b) bs (λ i d l.
    (let q = spanned h k (get_or bs i d).edge y (pos 2) strip (s.spans_all i d l) in
    and_true (is_of a (get_or bs i d)) (is_reached y (pos 2) (get_or bs i d).edge) (reach_true ((get_or bs i d).edge.low.y *ℤ pos 2) y ((get_or bs i d).edge.high.y *ℤ pos 2) q.0 q.1))) in
    let even = s.closed a y (pos 2) strip.real in
    omega (arith, one, two, even)

pub inside_at : (h k : ℤ) (es : List Edge) (odds : ℕ → List Edge) (bs : List Border) (s : IsStrip h k es odds bs) (i a : ℕ) (d : Border) → i < length bs →
    count_by (λ e. is_crossed e (mid_of h k (get_or bs i d).edge)) (odds a) % 2 ≡ count_by (λ b. is_of a b) (take (i + 1) bs) % 2
inside_at h k es odds bs s i a d hi =
    let e = (get_or bs i d).edge in
    let t = mid_of h k e in
    let pe = s.spans_all i d hi in
    let strip = mid-strip-at h k e s.rising pe in
    let one = s.counts a (λ f. is_crossed f t) (λ f m c. crossed_spans h k f t strip (All-contains (NoEndBetween h k) es f s.ends m) c) in
    let two = apart_counts h k es odds bs s i a d hi in
    let all = sum_by-take-drop (λ b. cond (is_of a b) 1 0) bs (i + 1) in
    let even = even_in_all h k es odds bs s a in
    omega (arith, one, two, all, even)

pub inside_then : (h k : ℤ) (es : List Edge) (odds : ℕ → List Edge) (bs : List Border) (s : IsStrip h k es odds bs) (i a : ℕ) (d : Border) → i < length bs →
    IsInside (odds a) (mid_of h k (get_or bs i d).edge) → is_inside_after bs (i + 1) a ≡ true
inside_then h k es odds bs s i a d hi c = eq-eqb (count_by (λ b. is_of a b) (take (i + 1) bs) % 2) 1 (sym (inside_at h k es odds bs s i a d hi) ∙ c)

pub inside_from : (h k : ℤ) (es : List Edge) (odds : ℕ → List Edge) (bs : List Border) (s : IsStrip h k es odds bs) (i a : ℕ) (d : Border) → i < length bs →
    is_inside_after bs (i + 1) a ≡ true → IsInside (odds a) (mid_of h k (get_or bs i d).edge)
inside_from h k es odds bs s i a d hi c = inside_at h k es odds bs s i a d hi ∙ eqb-true (count_by (λ b. is_of a b) (take (i + 1) bs) % 2) 1 c

-- ---- the leftmost place
pub mid_in_strip : (h k y m : ℤ) → h <ℤ k → pos 0 <ℤ m → y *ℤ pos 2 ≡ (h +ℤ k) *ℤ m → InStrip h k y m
mid_in_strip h k y m l r e =
    let w = lt-mul m h k r l in
    let split : (h +ℤ k) *ℤ m ≡ m *ℤ h +ℤ m *ℤ k = ring (h ∷ k ∷ m ∷ []) ((var 0 ⊕ var 1) ⊗ var 2) (var 2 ⊗ var 0 ⊕ var 2 ⊗ var 1) refl in
    let twice : y *ℤ pos 2 ≡ y +ℤ y = ring (y ∷ []) (var 0 ⊗ con (pos 2)) (var 0 ⊕ var 0) refl in
    record { real = r; low = omega (arith, lin, *ℤ_comm m h); high = omega (arith, lin, *ℤ_comm m k) }

-- a spot inside two areas has a border at its place or to the left, at whose place the same two areas are
pub record IsShifted (h k : ℤ) (odds : ℕ → List Edge) (bs : List Border) (a b : ℕ) (t : Spot) (d : Border) : Type 0 where
  pub at : ℕ
  pub within : at < length bs
  pub twice_a : is_inside_after bs (at + 1) a ≡ true
  pub twice_b : is_inside_after bs (at + 1) b ≡ true
  pub to_the_left : ((mid_of h k (get_or bs at d).edge).x *ℤ t.m) ≤ℤ (t.x *ℤ (rise (get_or bs at d).edge *ℤ pos 2))

pub shifted : (h k : ℤ) (es : List Edge) (odds : ℕ → List Edge) (bs : List Border) (s : IsStrip h k es odds bs) (a b : ℕ) (t : Spot) (d : Border) → IsBetween odds h k a b t → IsShifted h k odds bs a b t d
shifted h k es odds bs s a b t d two =
    let i = mid_in_strip h k t.y t.m s.rising two.real two.middle in
    let c = candidate h k es (odds a) t s.rising s.planar s.ends (s.held a) (s.closed a) i two.middle two.in_a in
    let f = c.0 in
    let at = s.complete f c.1.held c.1.spans_strip in
    let e = at.1.1 d in
    let same : (area : ℕ) → IsInside (odds area) t → IsInside (odds area) (mid_of h k f) = λ area inside. IsInside-same (odds area) t (mid_of h k f)
    (All-weaker (Contains es) (λ g. is_crossed g (mid_of h k f) ≡ is_crossed g t) (λ g m. All-contains (λ g. is_crossed g (mid_of h k f) ≡ is_crossed g t) es g c.1.same_crossings m) (odds area) (s.held area)) inside in
    let here : (area : ℕ) → IsInside (odds area) t → is_inside_after bs (at.0 + 1) area ≡ true = λ area inside. inside_then h k es odds bs s at.0 area d at.1.0 (subst (λ g. IsInside (odds area) (mid_of h k g)) (sym e) (same area inside)) in
    record {
      at = at.0;
      within = at.1.0;
      twice_a = here a two.in_a;
      twice_b = here b two.in_b;
      to_the_left = subst (λ g. ((mid_of h k g).x *ℤ t.m) ≤ℤ (t.x *ℤ (rise g *ℤ pos 2))) (sym e) c.1.to_the_left;
    }

pub none_between : (h k : ℤ) (es : List Edge) (odds : ℕ → List Edge) (bs : List Border) → IsStrip h k es odds bs → Border → ((n : ℕ) → n ≤ length bs → IsAlone bs n) → IsNoneBetween odds h k
none_between h k es odds bs s d alone a b t two =
    let w = shifted h k es odds bs s a b t d two in
    alone (w.at + 1) (omega (arith, w.within)) a b two.rising w.twice_a w.twice_b

-- the place of a border is at or left of those of later ones
not_after : (h k : ℤ) (es : List Edge) (odds : ℕ → List Edge) (bs : List Border) (s : IsStrip h k es odds bs) (i j : ℕ) (d : Border) (x m : ℤ) → i ≤ j → j < length bs → pos 0 <ℤ m →
    ((mid_of h k (get_or bs j d).edge).x *ℤ m) ≤ℤ (x *ℤ (rise (get_or bs j d).edge *ℤ pos 2)) → ((mid_of h k (get_or bs i d).edge).x *ℤ m) ≤ℤ (x *ℤ (rise (get_or bs i d).edge *ℤ pos 2))
not_after h k es odds bs s i j d x m l hj real left = elim (cases_lt i j) [
  | inr same ↦ (let e : j ≡ i = omega arith in subst (λ n. ((mid_of h k (get_or bs n d).edge).x *ℤ m) ≤ℤ (x *ℤ (rise (get_or bs n d).edge *ℤ pos 2))) e left)
  | inl before ↦
      let e = (get_or bs i d).edge in
      let f = (get_or bs j d).edge in
      let re = up h k e s.rising (s.spans_all i d (omega arith)) in
      let rf = up h k f s.rising (s.spans_all j d hj) in
      let ahead = s.sorted i j d before hj in
      let p = (mid_of h k e).x in
      let q = (mid_of h k f).x in
      let one : (rise e *ℤ (q *ℤ m)) ≤ℤ (rise e *ℤ (x *ℤ (rise f *ℤ pos 2))) = le-mul (rise e) (q *ℤ m) (x *ℤ (rise f *ℤ pos 2)) (omega (arith, lin)) left in
      let two : (m *ℤ (p *ℤ rise f)) ≤ℤ (m *ℤ (q *ℤ rise e)) = le-mul m (p *ℤ rise f) (q *ℤ rise e) (omega (arith, lin)) (omega (arith, lin)) in
      let a1 : rise e *ℤ (q *ℤ m) ≡ m *ℤ (q *ℤ rise e) = ring (rise e ∷ q ∷ m ∷ []) (var 0 ⊗ (var 1 ⊗ var 2)) (var 2 ⊗ (var 1 ⊗ var 0)) refl in
      let a2 : m *ℤ (p *ℤ rise f) ≡ rise f *ℤ (p *ℤ m) = ring (m ∷ p ∷ rise f ∷ []) (var 0 ⊗ (var 1 ⊗ var 2)) (var 2 ⊗ (var 1 ⊗ var 0)) refl in
      let a3 : rise e *ℤ (x *ℤ (rise f *ℤ pos 2)) ≡ rise f *ℤ (x *ℤ (rise e *ℤ pos 2)) = ring (rise e ∷ x ∷ rise f ∷ []) (var 0 ⊗ (var 1 ⊗ (var 2 ⊗ con (pos 2)))) (var 2 ⊗ (var 1 ⊗ (var 0 ⊗ con (pos 2)))) refl in
      le-cancel (rise f) (p *ℤ m) (x *ℤ (rise e *ℤ pos 2)) rf (omega (arith, lin))
]

pub first_between : (h k : ℤ) (es : List Edge) (odds : ℕ → List Edge) (bs : List Border) (s : IsStrip h k es odds bs) (i a b : ℕ) (d : Border) → i < length bs →
    ((n : ℕ) → n ≤ i → IsAlone bs n) → AreTwoLeast (is_inside_after bs (i + 1)) a b → IsFirstBetween odds h k a b (mid_of h k (get_or bs i d).edge)
first_between h k es odds bs s i a b d hi alone two =
    let e = (get_or bs i d).edge in
    let t = mid_of h k e in
    let strip = mid-strip-at h k e s.rising (s.spans_all i d hi) in
    record {
      here = record {
        real = strip.real;
        middle = ap (λ y. y *ℤ pos 2) (height-y e (h +ℤ k) (pos 2)) ∙ *ℤ_assoc (h +ℤ k) (rise e) (pos 2);
        rising = two.rising;
        in_a = inside_from h k es odds bs s i a d hi two.first;
        in_b = inside_from h k es odds bs s i b d hi two.second;
      };
      leftmost = λ c g u other.
          (let w = shifted h k es odds bs s c g u d other in
          let far : i ≤ w.at = elim (cases_lt w.at i) [ inl l ↦ absurd (alone (w.at + 1) (omega arith) c g other.rising w.twice_a w.twice_b) | inr l ↦ l ] in
          not_after h k es odds bs s i w.at d u.x u.m far w.within other.real w.to_the_left);
      two_least = λ c inside. two.least c (inside_then h k es odds bs s i c d hi inside);
    }
