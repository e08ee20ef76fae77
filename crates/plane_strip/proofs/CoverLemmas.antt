-- Some spot is inside two lists of edges exactly where one on a mid-line is.
use Rattle.std.proofs.Common.{◌≡◌, ℕ, ◌+◌, ◌%◌, ◌⊎◌, inl, inr, refl, sym, ◌∙◌, ap, subst, arith, Bool, true, false, cond, List, [], ◌∷◌, All, Contains, fold, ℤ, pos, ◌*ℤ◌, ◌≤ℤ◌, ◌<ℤ◌}
use Rattle.std.proofs.lemmas.List.Elements.{All-nil, All-cons, All-head, All-tail, All-weaker, All-contains}
use Rattle.plane_edge.specs.declared.edge.Edge.{Edge}
use Rattle.plane_edge.specs.declared.spot.Spot.{Spot}
use Rattle.plane_edge.specs.Plane.{IsInside, is_crossed, side_of}
use Rattle.plane_strip.specs.Strip.{IsPlanar, InStrip, NoEndBetween, IsRising, AreNeighbours, EndsAt, IsOnMidLine}
use Rattle.whole_ring.proofs.Laws.{*ℤ_comm}
use Rattle.whole_ring.proofs.Signs.{lin, either_way, le-mul}
use Rattle.plane_strip.proofs.MidLemmas.{strip, test_range}

-- ---- counts
pub fold-same : (p q : Edge → Bool) (a : ℕ) (xs : List Edge) → All (λ x. p x ≡ q x) xs → fold (λ n x. n + cond (p x) 1 0) a xs ≡ fold (λ n x. n + cond (q x) 1 0) a xs
fold-same p q a [] h = refl
fold-same p q a (x ∷ xs) h =
    fold-same p q (a + cond (p x) 1 0) xs (All-tail (λ x. p x ≡ q x) x xs h)
    ∙ ap (λ b. fold (λ n x. n + cond (q x) 1 0) (a + cond b 1 0) xs) (All-head (λ x. p x ≡ q x) x xs h)

pub IsInside-same : (es : List Edge) (s t : Spot) → All (λ e. is_crossed e t ≡ is_crossed e s) es → IsInside es s → IsInside es t
IsInside-same es s t h i = ap (λ n. n % 2) (fold-same (λ e. is_crossed e t) (λ e. is_crossed e s) 0 es h) ∙ i

fold-none : (p : Edge → Bool) (a : ℕ) (xs : List Edge) → All (λ x. p x ≡ false) xs → fold (λ n x. n + cond (p x) 1 0) a xs ≡ a
fold-none p a [] h = refl
fold-none p a (x ∷ xs) h =
    ap (λ b. fold (λ n x. n + cond (p x) 1 0) (a + cond b 1 0) xs) (All-head (λ x. p x ≡ false) x xs h)
    ∙ fold-none p (a + 0) xs (All-tail (λ x. p x ≡ false) x xs h) ∙ omega arith

some_crossed : (Q : Edge → Type 0) (s : Spot) (es : List Edge) → All Q es → ((e : Edge) × (Q e × (is_crossed e s ≡ true))) ⊎ All (λ e. is_crossed e s ≡ false) es
some_crossed Q s [] q = inr (All-nil (λ e. is_crossed e s ≡ false))
some_crossed Q s (e ∷ es) q = go (some_crossed Q s es (All-tail Q e es q)) (is_crossed e s) refl
  where
    go : ((e : Edge) × (Q e × (is_crossed e s ≡ true))) ⊎ All (λ e. is_crossed e s ≡ false) es → (b : Bool) → is_crossed e s ≡ b → ((e : Edge) × (Q e × (is_crossed e s ≡ true))) ⊎ All (λ e. is_crossed e s ≡ false) (e ∷ es)
    go r true c = inl (e, (All-head Q e es q, c))
    go (inl f) false c = inl f
    go (inr a) false c = inr (All-cons (λ e. is_crossed e s ≡ false) e es c a)

pub crossed_inside : (Q : Edge → Type 0) (s : Spot) (es : List Edge) → All Q es → IsInside es s → (e : Edge) × (Q e × (is_crossed e s ≡ true))
crossed_inside Q s es q i = elim (some_crossed Q s es q) [ inl f ↦ f | inr a ↦ let z = fold-none (λ e. is_crossed e s) 0 es a in absurd (zero_is_even (sym (ap (λ n. n % 2) z) ∙ i)) ]
  where
    zero_is_even : 0 % 2 ≡ 1 → ⊥
    zero_is_even e = cc

-- ---- the strip of a height
abbrev Outside : ℤ → ℤ → ℤ → Type 0
Outside h k z = (z ≤ℤ h) ⊎ (k ≤ℤ z)

low-holds : (P : ℤ → Type 0) (h k : ℤ) (xs : List ℤ) → All P xs → AreNeighbours h k xs → P h
low-holds P h k [] a n = absurd n
low-holds P h k (x ∷ []) a (inl n) = absurd n
low-holds P h k (x ∷ y ∷ ys) a (inl n) = subst P n.0 (All-head P x (y ∷ ys) a)
low-holds P h k (x ∷ xs) a (inr n) = low-holds P h k xs (All-tail P x xs a) n

pub none_between : (h k : ℤ) (xs : List ℤ) → IsRising xs → AreNeighbours h k xs → All (Outside h k) xs
none_between h k [] r n = absurd n
none_between h k (x ∷ []) r (inl n) = absurd n
none_between h k (x ∷ y ∷ ys) r (inl n) =
    let above : (z : ℤ) → y <ℤ z → Outside h k z = λ z b. inr (omega (arith, lin)) in
    let ny : Outside h k y = inr (omega (arith, lin)) in
    let nx : Outside h k x = inl (omega (arith, lin)) in
    All-cons (Outside h k) x (y ∷ ys) nx (All-cons (Outside h k) y ys ny (All-weaker (λ z. y <ℤ z) (Outside h k) above ys r.1.0))
none_between h k (x ∷ xs) r (inr n) =
    let b = low-holds (λ z. x <ℤ z) h k xs r.0 n in
    All-cons (Outside h k) x xs (inl (omega (arith, lin))) (none_between h k xs r.1 n)

pub rising-pair : (h k : ℤ) (xs : List ℤ) → IsRising xs → AreNeighbours h k xs → h <ℤ k
rising-pair h k [] r n = absurd n
rising-pair h k (x ∷ []) r (inl n) = absurd n
rising-pair h k (x ∷ y ∷ ys) r (inl n) = let b = All-head (λ z. x <ℤ z) y ys r.0 in omega (arith, lin)
rising-pair h k (x ∷ xs) r (inr n) = rising-pair h k xs r.1 n

pub record AtStrip (hs : List ℤ) (y m : ℤ) : Type 0 where
  pub low : ℤ
  pub high : ℤ
  pub neighbours : AreNeighbours low high hs
  pub within : InStrip low high y m

later : (x : ℤ) (xs : List ℤ) (y m : ℤ) → AtStrip xs y m → AtStrip (x ∷ xs) y m
later x xs y m a = record { low = a.low; high = a.high; neighbours = inr a.neighbours; within = a.within }

walk : (x : ℤ) (xs : List ℤ) (y m : ℤ) → pos 0 <ℤ m → (x *ℤ m) ≤ℤ y → (All (λ z. (z *ℤ m) ≤ℤ y) xs → ⊥) → AtStrip (x ∷ xs) y m
walk x [] y m hm h no_end = absurd (no_end (All-nil (λ z. (z *ℤ m) ≤ℤ y)))
walk x (w ∷ ws) y m hm h no_end = elim (either_way (w *ℤ m) y) [
  | inr d ↦ record { low = x; high = w; neighbours = inl (refl, refl); within = record { real = hm; low = h; high = d } }
  | inl d ↦ later x (w ∷ ws) y m (walk w ws y m hm d (λ a. no_end (All-cons (λ z. (z *ℤ m) ≤ℤ y) w ws d a)))
]

times-order : (x z y m : ℤ) → pos 0 <ℤ m → y <ℤ (x *ℤ m) → x <ℤ z → y <ℤ (z *ℤ m)
times-order x z y m hm a b = let p = le-mul m x z (omega (arith, lin)) (omega (arith, lin)) in omega (arith, lin, *ℤ_comm m x, *ℤ_comm m z)

pub find_strip : (hs : List ℤ) (low high y m : ℤ) → IsRising hs → pos 0 <ℤ m → Contains hs low → Contains hs high → (low *ℤ m) ≤ℤ y → y <ℤ (high *ℤ m) → AtStrip hs y m
find_strip [] low high y m r hm cl ch a b = absurd (omega (arith, cl.1))
find_strip (x ∷ xs) low high y m r hm cl ch a b = elim (either_way (x *ℤ m) y) [
  | inl d ↦ walk x xs y m hm d (λ all. let q = All-contains (λ z. (z *ℤ m) ≤ℤ y) (x ∷ xs) high (All-cons (λ z. (z *ℤ m) ≤ℤ y) x xs d all) ch in omega (arith, lin))
  | inr d ↦ let q = All-contains (λ z. y <ℤ (z *ℤ m)) (x ∷ xs) low (All-cons (λ z. y <ℤ (z *ℤ m)) x xs d (All-weaker (λ z. x <ℤ z) (λ z. y <ℤ (z *ℤ m)) (λ z l. times-order x z y m hm d l) xs r.0)) cl in absurd (omega (arith, lin))
]

-- ---- the theorem
pub mid_line : (hs : List ℤ) (all a b : List Edge) (s : Spot) → IsRising hs → All (EndsAt hs) all → IsPlanar all → All (Contains all) a → All (Contains all) b →
    pos 0 <ℤ s.m → IsInside a s → IsInside b s → (t : Spot) × (IsOnMidLine hs t × IsInside a t × IsInside b t)
mid_line hs all a b s rising ends planar in_a in_b hm ia ib =
    let c = crossed_inside (Contains all) s a in_a ia in
    let e = c.0 in
    let at = All-contains (EndsAt hs) all e ends c.1.0 in
    let r = test_range (e.low.y *ℤ s.m) s.y (e.high.y *ℤ s.m) (side_of e s) c.1.1 in
    let f = find_strip hs e.low.y e.high.y s.y s.m rising hm at.0 at.1 r.0 r.1 in
    let outside = none_between f.low f.high hs rising f.neighbours in
    let clear : (g : Edge) → EndsAt hs g → NoEndBetween f.low f.high g = λ g i. record { low_end = All-contains (Outside f.low f.high) hs g.low.y outside i.0; high_end = All-contains (Outside f.low f.high) hs g.high.y outside i.1 } in
    let t = strip f.low f.high all s (rising-pair f.low f.high hs rising f.neighbours) planar (All-weaker (EndsAt hs) (NoEndBetween f.low f.high) clear all ends) f.within in
    let seen : (es : List Edge) → All (Contains all) es → IsInside es s → IsInside es t.0 = λ es i in_es. IsInside-same es s t.0 (All-weaker (Contains all) (λ e. is_crossed e t.0 ≡ is_crossed e s) (λ e m. All-contains (λ e. is_crossed e t.0 ≡ is_crossed e s) all e t.1.same_crossings m) es i) in_es in
    (t.0, (record { low = f.low; high = f.high; neighbours = f.neighbours; real = t.1.real; middle = t.1.middle }, seen a in_a ia, seen b in_b ib))
