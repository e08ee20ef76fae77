-- What is crossed from a spot between two neighbouring heights is crossed from a spot in the middle of them.
use Rattle.std.proofs.Common.{◌≡◌, ◌≢◌, ◌⊎◌, inl, inr, refl, sym, ◌∙◌, ap, arith, Bool, true, false, true≢false, int_lt, List, [], ◌∷◌, All, Contains, ℤ, pos, ◌+ℤ◌, ◌-ℤ◌, ◌*ℤ◌, ◌≤ℤ◌, ◌<ℤ◌}
use Rattle.std.specs.Int.{int_min}
use Rattle.std.proofs.lemmas.Int.{ints, clamps}
use Rattle.std.proofs.lemmas.List.Elements.{All-nil, All-cons, All-head, All-tail, All-weaker, All-contains_itself}
use Rattle.plane_edge.specs.declared.edge.Edge.{Edge}
use Rattle.plane_edge.specs.declared.spot.Spot.{Spot}
use Rattle.plane_edge.specs.Plane.{side_of, is_crossed, is_passed_by, run, rise}
use Rattle.plane_strip.specs.Strip.{IsPlanar, InStrip, NoEndBetween, Spans, place, lead}
use Rattle.whole_ring.proofs.Laws.{*ℤ_comm, *ℤ_assoc}
use Rattle.whole_ring.proofs.Ring.{ring, var, con, ◌⊕◌, ◌⊖◌, ◌⊗◌}
use Rattle.whole_ring.proofs.Signs.{lin, sign, none, above, below, either_way, le-mul, lt-mul, pos-mul, nonneg-mul}
use Rattle.plane_strip.proofs.StripLemmas.{spans, spanned, side-place, lead-swap, at_height, height-y, up, keeps_right}

-- ---- the test of a crossing, in a strip
test_crossed : (low y high side : ℤ) → low ≤ℤ y → y <ℤ high → is_passed_by low y high side ≡ int_lt (pos 0) side
test_crossed low y high side h k = grind (arith, ints)

pub test_range : (low y high side : ℤ) → is_passed_by low y high side ≡ true → (low ≤ℤ y) × (y <ℤ high)
test_range low y high side h = grind (arith, ints)

test_false : (b : Bool) → ¬ (b ≡ true) → b ≡ false
test_false true h = absurd (h refl)
test_false false h = refl

pub lt_true : (a b : ℤ) → a <ℤ b → int_lt a b ≡ true
lt_true a b h = grind (arith, ints)

pub lt_false : (a b : ℤ) → b ≤ℤ a → int_lt a b ≡ false
lt_false a b h = grind (arith, ints)

pub from_lt_true : (a b : ℤ) → int_lt a b ≡ true → a <ℤ b
from_lt_true a b h = grind (arith, ints)

pub from_lt_false : (a b : ℤ) → int_lt a b ≡ false → b ≤ℤ a
from_lt_false a b h = grind (arith, ints)

pub is_crossed-spanned : (h k : ℤ) (e : Edge) (s : Spot) → InStrip h k s.y s.m → Spans h k e → is_crossed e s ≡ int_lt (pos 0) (side_of e s)
is_crossed-spanned h k e s i p = let c = spanned h k e s.y s.m i p in test_crossed (e.low.y *ℤ s.m) s.y (e.high.y *ℤ s.m) (side_of e s) c.0 c.1

pub is_crossed-other : (h k : ℤ) (e : Edge) (s : Spot) → InStrip h k s.y s.m → NoEndBetween h k e → ¬ Spans h k e → is_crossed e s ≡ false
is_crossed-other h k e s i n out = test_false (is_crossed e s) (λ c. let r = test_range (e.low.y *ℤ s.m) s.y (e.high.y *ℤ s.m) (side_of e s) c in out (spans h k e s.y s.m i n r.0 r.1))

pub spans_or : (h k : ℤ) (e : Edge) → Spans h k e ⊎ ¬ Spans h k e
spans_or h k e = elim (either_way e.low.y h) [
  | inl a ↦ elim (either_way k e.high.y) [ inl b ↦ inl (record { low = a; high = b }) | inr b ↦ inr (λ p. omega (arith, lin, p.high)) ]
  | inr a ↦ inr (λ p. omega (arith, lin, p.low))
]

-- ---- among the edges that the spot does not cross, the one furthest to the right in the middle
pub data Pick (h k : ℤ) (s : Spot) (all es : List Edge) : Type 0 where
  all_right : All (λ g. Spans h k g → is_crossed g s ≡ true) es → Pick h k s all es
  last_left : (f : Edge) → Contains all f → Spans h k f → is_crossed f s ≡ false → All (λ g. Spans h k g → is_crossed g s ≡ false → lead g f (h +ℤ k) (pos 2) ≤ℤ pos 0) es → Pick h k s all es

pub lead-self : (e : Edge) (y m : ℤ) → lead e e y m ≡ pos 0
lead-self e y m = ring (place e y m ∷ rise e ∷ []) (var 0 ⊗ var 1 ⊖ var 0 ⊗ var 1) (con (pos 0)) refl

pub lead-chain : (g f e : Edge) (y m : ℤ) → rise f *ℤ lead g e y m ≡ rise e *ℤ lead g f y m +ℤ rise g *ℤ lead f e y m
lead-chain g f e y m = ring (place g y m ∷ place f y m ∷ place e y m ∷ rise g ∷ rise f ∷ rise e ∷ [])
    (var 4 ⊗ (var 0 ⊗ var 5 ⊖ var 2 ⊗ var 3)) (var 5 ⊗ (var 0 ⊗ var 4 ⊖ var 1 ⊗ var 3) ⊕ var 3 ⊗ (var 1 ⊗ var 5 ⊖ var 2 ⊗ var 4)) refl

pub neg-part : (a b : ℤ) → a *ℤ (pos 0 -ℤ b) ≡ pos 0 -ℤ a *ℤ b
neg-part a b = ring (a ∷ b ∷ []) (var 0 ⊗ (con (pos 0) ⊖ var 1)) (con (pos 0) ⊖ var 0 ⊗ var 1) refl

still_left : (h k : ℤ) (g f e : Edge) (y m : ℤ) → h <ℤ k → Spans h k g → Spans h k f → Spans h k e → lead g f y m ≤ℤ pos 0 → lead f e y m ≤ℤ pos 0 → lead g e y m ≤ℤ pos 0
still_left h k g f e y m h<k pg pf pe a b = elim (sign (lead g e y m)) [
  | below d ↦ omega (arith, lin)
  | none d ↦ omega (arith, lin)
  | above d ↦
      let over = pos-mul (rise f) (lead g e y m) (up h k f h<k pf) d in
      let one = nonneg-mul (rise e) (pos 0 -ℤ lead g f y m) (omega (arith, lin, up h k e h<k pe)) (omega (arith, lin)) in
      let two = nonneg-mul (rise g) (pos 0 -ℤ lead f e y m) (omega (arith, lin, up h k g h<k pg)) (omega (arith, lin)) in
      absurd (omega (arith, lin, lead-chain g f e y m, neg-part (rise e) (lead g f y m), neg-part (rise g) (lead f e y m)))
]

abbrev pub Right : ℤ → ℤ → Spot → Edge → Type 0
Right h k s g = Spans h k g → is_crossed g s ≡ true

abbrev pub Left : ℤ → ℤ → Spot → Edge → Edge → Type 0
Left h k s f g = Spans h k g → is_crossed g s ≡ false → lead g f (h +ℤ k) (pos 2) ≤ℤ pos 0

clash : {X : Type 0} (b : Bool) → b ≡ true → b ≡ false → X
clash b p q = absurd (true≢false (sym p ∙ q))

pub take_up : (h k : ℤ) (s : Spot) (all : List Edge) (e : Edge) (es : List Edge) → h <ℤ k → Contains all e → Pick h k s all es → Spans h k e ⊎ ¬ Spans h k e → (b : Bool) → is_crossed e s ≡ b → Pick h k s all (e ∷ es)
take_up h k s all e es h<k mem (all_right a) (inr n) b c = all_right (All-cons (Right h k s) e es (λ p. absurd (n p)) a)
take_up h k s all e es h<k mem (all_right a) (inl p) true c = all_right (All-cons (Right h k s) e es (λ q. c) a)
take_up h k s all e es h<k mem (all_right a) (inl p) false c =
    let self : Left h k s e e = λ q r. (let z = lead-self e (h +ℤ k) (pos 2) in omega (arith, lin)) in
    last_left e mem p c (All-cons (Left h k s e) e es self (All-weaker (Right h k s) (Left h k s e) (λ g right q r. clash (is_crossed g s) (right q) r) es a))
take_up h k s all e es h<k mem (last_left f memf pf cf a) (inr n) b c = last_left f memf pf cf (All-cons (Left h k s f) e es (λ p. absurd (n p)) a)
take_up h k s all e es h<k mem (last_left f memf pf cf a) (inl p) true c = last_left f memf pf cf (All-cons (Left h k s f) e es (λ q r. clash (is_crossed e s) c r) a)
take_up h k s all e es h<k mem (last_left f memf pf cf a) (inl p) false c =
    elim (either_way (lead e f (h +ℤ k) (pos 2)) (pos 0)) [
      | inl d ↦ last_left f memf pf cf (All-cons (Left h k s f) e es (λ q r. d) a)
      | inr d ↦
          let self : Left h k s e e = λ q r. (let z = lead-self e (h +ℤ k) (pos 2) in omega (arith, lin)) in
          let w : lead f e (h +ℤ k) (pos 2) ≤ℤ pos 0 = (let z = lead-swap e f (h +ℤ k) (pos 2) in omega (arith, lin)) in
          last_left e mem p c (All-cons (Left h k s e) e es self (All-weaker (Left h k s f) (Left h k s e) (λ g left q r. still_left h k g f e (h +ℤ k) (pos 2) h<k q pf p (left q r) w) es a))
    ]

pub pick : (h k : ℤ) (s : Spot) (all es : List Edge) → h <ℤ k → All (Contains all) es → Pick h k s all es
pick h k s all [] h<k mem = all_right (All-nil (Right h k s))
pick h k s all (e ∷ es) h<k mem = take_up h k s all e es h<k (All-head (Contains all) e es mem) (pick h k s all es h<k (All-tail (Contains all) e es mem)) (spans_or h k e) (is_crossed e s) refl

-- ---- a place to the left of all edges
abbrev Beyond : ℤ → ℤ → ℤ → Edge → Type 0
Beyond y m x e = pos 1 ≤ℤ rise e → (x *ℤ rise e) <ℤ place e y m

shift : (r x : ℤ) → r *ℤ x ≡ x +ℤ (r -ℤ pos 1) *ℤ x
shift r x = ring (r ∷ x ∷ []) (var 0 ⊗ var 1) (var 1 ⊕ (var 0 ⊖ con (pos 1)) ⊗ var 1) refl

no_more : (r x : ℤ) → pos 1 ≤ℤ r → x ≤ℤ pos 0 → (x *ℤ r) ≤ℤ x
no_more r x h k = let p = nonneg-mul (r -ℤ pos 1) (pos 0 -ℤ x) (omega (arith, lin)) (omega (arith, lin)) in omega (arith, lin, shift r x, neg-part (r -ℤ pos 1) x, *ℤ_comm x r)

min_facts : (x p : ℤ) → (int_min x (p -ℤ pos 1) ≤ℤ x) × (int_min x (p -ℤ pos 1) <ℤ p)
min_facts x p = omega (arith, lin, clamps)

far : (y m : ℤ) (es : List Edge) → (x : ℤ) × ((x ≤ℤ pos 0) × All (Beyond y m x) es)
far y m [] = (pos 0, (omega (arith, lin), All-nil (Beyond y m (pos 0))))
far y m (e ∷ es) =
    let rest = far y m es in
    let x = rest.0 in
    let z = int_min x (place e y m -ℤ pos 1) in
    let f = min_facts x (place e y m) in
    let small : z ≤ℤ pos 0 = omega (arith, lin, f.0, rest.1.0) in
    let here : Beyond y m z e = λ r. (let q = no_more (rise e) z r small in omega (arith, lin, f.1)) in
    let there : (g : Edge) → Beyond y m x g → Beyond y m z g = λ g b r. (let q = le-mul (rise g) z x (omega (arith, lin)) f.0 in let c = b r in omega (arith, lin, *ℤ_comm (rise g) z, *ℤ_comm (rise g) x)) in
    (z, (small, All-cons (Beyond y m z) e es here (All-weaker (Beyond y m x) (Beyond y m z) there es rest.1.1)))

-- ---- the theorem of a strip
pub record SeenAs (h k : ℤ) (es : List Edge) (s t : Spot) : Type 0 where
  pub real : pos 0 <ℤ t.m
  pub middle : t.y *ℤ pos 2 ≡ (h +ℤ k) *ℤ t.m
  pub same_crossings : All (λ e. is_crossed e t ≡ is_crossed e s) es

pub side-lead : (e f : Edge) (y m : ℤ) → side_of e (at_height f y m) ≡ lead e f y m
side-lead e f y m = ring (e.low.x ∷ e.low.y ∷ run e ∷ rise e ∷ f.low.x ∷ f.low.y ∷ run f ∷ rise f ∷ y ∷ m ∷ [])
    (let X = var 4 ⊗ (var 7 ⊗ var 9) ⊕ (var 8 ⊖ var 5 ⊗ var 9) ⊗ var 6 in let Y = var 5 ⊗ (var 7 ⊗ var 9) ⊕ (var 8 ⊖ var 5 ⊗ var 9) ⊗ var 7 in let M = var 7 ⊗ var 9 in
    (var 0 ⊗ M ⊖ X) ⊗ var 3 ⊕ var 2 ⊗ (Y ⊖ var 1 ⊗ M))
    ((var 0 ⊗ (var 3 ⊗ var 9) ⊕ (var 8 ⊖ var 1 ⊗ var 9) ⊗ var 2) ⊗ var 7 ⊖ (var 4 ⊗ (var 7 ⊗ var 9) ⊕ (var 8 ⊖ var 5 ⊗ var 9) ⊗ var 6) ⊗ var 3) refl

lead-sides : (e f : Edge) (x y m : ℤ) → lead e f y m ≡ rise f *ℤ (place e y m -ℤ x *ℤ rise e) -ℤ rise e *ℤ (place f y m -ℤ x *ℤ rise f)
lead-sides e f x y m = ring (place e y m ∷ place f y m ∷ rise e ∷ rise f ∷ x ∷ []) (var 0 ⊗ var 3 ⊖ var 1 ⊗ var 2) (var 3 ⊗ (var 0 ⊖ var 4 ⊗ var 2) ⊖ var 2 ⊗ (var 1 ⊖ var 4 ⊗ var 3)) refl

-- the middle is in the strip
pub mid_strip : (h k : ℤ) → h <ℤ k → InStrip h k (h +ℤ k) (pos 2)
mid_strip h k l = record { real = omega (arith, lin); low = omega (arith, ints); high = omega (arith, ints) }

pub mid_strict : (h k : ℤ) → h <ℤ k → (h *ℤ pos 2) <ℤ (h +ℤ k)
mid_strict h k l = omega (arith, ints)

leads : (h k : ℤ) (e f : Edge) (s : Spot) → h <ℤ k → Spans h k e → Spans h k f → pos 0 <ℤ side_of e s → side_of f s ≤ℤ pos 0 → pos 0 <ℤ lead e f s.y s.m
leads h k e f s h<k p q a b =
    let one = pos-mul (rise f) (side_of e s) (up h k f h<k q) a in
    let two = nonneg-mul (rise e) (pos 0 -ℤ side_of f s) (omega (arith, lin, up h k e h<k p)) (omega (arith, lin)) in
    let ea = ap (λ z. rise f *ℤ z) (side-place e s.x s.y s.m) in
    let eb = ap (λ z. rise e *ℤ z) (side-place f s.x s.y s.m) in
    omega (arith, lin, lead-sides e f s.x s.y s.m, neg-part (rise e) (side_of f s))

pub mid-strip-at : (h k : ℤ) (f : Edge) → h <ℤ k → Spans h k f → InStrip h k (at_height f (h +ℤ k) (pos 2)).y (rise f *ℤ pos 2)
mid-strip-at h k f h<k q =
    let r = up h k f h<k q in
    let e = height-y f (h +ℤ k) (pos 2) in
    let low = lt-mul (rise f) (h *ℤ pos 2) (h +ℤ k) r (mid_strict h k h<k) in
    let high = lt-mul (rise f) (h +ℤ k) (k *ℤ pos 2) r (mid_strip h k h<k).high in
    let turn : (z : ℤ) → rise f *ℤ (z *ℤ pos 2) ≡ z *ℤ (rise f *ℤ pos 2) = λ z. ring (rise f ∷ z ∷ []) (var 0 ⊗ (var 1 ⊗ con (pos 2))) (var 1 ⊗ (var 0 ⊗ con (pos 2))) refl in
    record {
      real = pos-mul (rise f) (pos 2) r (omega (arith, lin));
      low = omega (arith, lin, turn h, *ℤ_comm (rise f) (h +ℤ k));
      high = omega (arith, lin, turn k, *ℤ_comm (rise f) (h +ℤ k));
    }

pub at_left : (h k : ℤ) (es : List Edge) (s : Spot) (f e : Edge) → h <ℤ k → IsPlanar es → Contains es f → Contains es e → NoEndBetween h k e → InStrip h k s.y s.m → Spans h k f → is_crossed f s ≡ false → Left h k s f e → is_crossed e (at_height f (h +ℤ k) (pos 2)) ≡ is_crossed e s
at_left h k es s f e h<k planar mf me n i q cf left = elim (spans_or h k e) [
  | inr out ↦ is_crossed-other h k e (at_height f (h +ℤ k) (pos 2)) (mid-strip-at h k f h<k q) n out ∙ sym (is_crossed-other h k e s i n out)
  | inl p ↦ go p (is_crossed e s) refl
]
  where
    go : Spans h k e → (b : Bool) → is_crossed e s ≡ b → is_crossed e (at_height f (h +ℤ k) (pos 2)) ≡ is_crossed e s
    go p true c =
        let t = at_height f (h +ℤ k) (pos 2) in
        let a = from_lt_true (pos 0) (side_of e s) (sym (is_crossed-spanned h k e s i p) ∙ c) in
        let b = from_lt_false (pos 0) (side_of f s) (sym (is_crossed-spanned h k f s i q) ∙ cf) in
        let other : e ≢ f = λ same. clash (is_crossed e s) c (ap (λ g. is_crossed g s) same ∙ cf) in
        let d = keeps_right h k e f s.y s.m (h +ℤ k) (pos 2) h<k (planar e f me mf other) p q i (mid_strip h k h<k) (mid_strict h k h<k) (leads h k e f s h<k p q a b) in
        is_crossed-spanned h k e t (mid-strip-at h k f h<k q) p ∙ lt_true (pos 0) (side_of e t) (rw (side-lead e f (h +ℤ k) (pos 2)) d) ∙ sym c
    go p false c =
        let t = at_height f (h +ℤ k) (pos 2) in
        is_crossed-spanned h k e t (mid-strip-at h k f h<k q) p ∙ lt_false (pos 0) (side_of e t) (rw (side-lead e f (h +ℤ k) (pos 2)) (left p c)) ∙ sym c

at_far : (h k x : ℤ) (s : Spot) (e : Edge) → h <ℤ k → NoEndBetween h k e → InStrip h k s.y s.m → Right h k s e → Beyond (h +ℤ k) (pos 2) x e → is_crossed e (record { x = x; y = h +ℤ k; m = pos 2 }) ≡ is_crossed e s
at_far h k x s e h<k n i right beyond =
    let t : Spot = record { x = x; y = h +ℤ k; m = pos 2 } in
    elim (spans_or h k e) [
      | inr out ↦ is_crossed-other h k e t (mid_strip h k h<k) n out ∙ sym (is_crossed-other h k e s i n out)
      | inl p ↦
          let b = beyond (omega (arith, lin, up h k e h<k p)) in
          let w = side-place e x (h +ℤ k) (pos 2) in
          is_crossed-spanned h k e t (mid_strip h k h<k) p ∙ lt_true (pos 0) (side_of e t) (omega (arith, lin)) ∙ sym (right p)
    ]

pub both : {A : Type 0} (P Q R : A → Type 0) → ((a : A) → P a → Q a → R a) → (xs : List A) → All P xs → All Q xs → All R xs
both P Q R f xs p q k d l = f _ (p k d l) (q k d l)

pub strip : (h k : ℤ) (es : List Edge) (s : Spot) → h <ℤ k → IsPlanar es → All (NoEndBetween h k) es → InStrip h k s.y s.m → (t : Spot) × SeenAs h k es s t
strip h k es s h<k planar ends i = go (pick h k s es es h<k (All-contains_itself es))
  where
    go : Pick h k s es es → (t : Spot) × SeenAs h k es s t
    go (all_right a) =
        let f = far (h +ℤ k) (pos 2) es in
        let t : Spot = record { x = f.0; y = h +ℤ k; m = pos 2 } in (
          t,
          record {
            real = omega (arith, lin);
            middle = refl;
            same_crossings = both (λ e. NoEndBetween h k e × Right h k s e) (Beyond (h +ℤ k) (pos 2) f.0) (λ e. is_crossed e t ≡ is_crossed e s)
                (λ e c b. at_far h k f.0 s e h<k c.0 i c.1 b) es (both (NoEndBetween h k) (Right h k s) (λ e. NoEndBetween h k e × Right h k s e) (λ e n r. (n, r)) es ends a) f.1.1;
          },
        )
    go (last_left f mf q cf a) =
        let t = at_height f (h +ℤ k) (pos 2) in (
          t,
          record {
            real = (mid-strip-at h k f h<k q).real;
            middle = ap (λ y. y *ℤ pos 2) (height-y f (h +ℤ k) (pos 2)) ∙ *ℤ_assoc (h +ℤ k) (rise f) (pos 2);
            same_crossings = both (λ e. NoEndBetween h k e × Contains es e) (Left h k s f) (λ e. is_crossed e t ≡ is_crossed e s)
                (λ e c l. at_left h k es s f e h<k planar mf c.1 c.0 i q cf l) es (both (NoEndBetween h k) (Contains es) (λ e. NoEndBetween h k e × Contains es e) (λ e n m. (n, m)) es ends (All-contains_itself es)) a;
          },
        )
