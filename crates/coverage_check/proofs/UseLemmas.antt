-- Uses: their order, and whose they are.
use Rattle.std.proofs.Common.{◌≡◌, ℕ, zero, suc, ◌+◌, ◌<◌, ◌⊎◌, inl, inr, refl, sym, ◌∙◌, ap, subst, arith, Bool, true, false, ◌&&◌, eqb, List, [], ◌∷◌, ◌++◌, length, get_or, take, map, All, Contains, ℤ, ◌<ℤ◌, int_cmp, is_lt, nat_cmp}
use Rattle.std.proofs.Common.{Ordering, Less, Equal, Greater}
use Rattle.std.specs.List.{AllPairs}
use Rattle.std.specs.List.Sorted.{IsStrictlySortedBy, IsSorted}
use Rattle.std.specs.Ordering.{ordering_then, int_eq, is_eq, eq_by_cmp}
use Rattle.std.specs.Cmp.{IsTotalOrder, IsEquivalence}
use Rattle.std.proofs.lemmas.Int.{ints}
use Rattle.std.proofs.lemmas.Bool.{eq-eqb, eqb-true, and_parts}
use Rattle.std.proofs.lemmas.Bool.Decides.{nat_tests}
use Rattle.std.proofs.lemmas.Cmp.{nat_cmp_total, on_total, then_total}
use Rattle.std.proofs.lemmas.List.{get_or-map, take_more, map_push, length-map, length-take-le, append-nil, append_assoc}
use Rattle.std.proofs.lemmas.List.Elements.{All-from_recursion, Contains-append_cases, Contains-append_left, Contains-append_right}
use Rattle.plane_edge.specs.declared.edge.Edge.{Edge}
use Rattle.plane_edge.specs.declared.point.Point.{Point}
use Rattle.plane_edge.specs.Edges.{is_edge_below, IsRisingEdges}
use Rattle.plane_edge.proofs.OrderLemmas.{edge_order, edge_order_total, edge_less, edge_below_is_less, edge_below-one_way, edge_below-irreflexive, same_edge_is_equal, same_edges_equal, same_edge_itself}
use Rattle.plane_strip.specs.Strip.{IsRising}
use Rattle.coverage_check.specs.declared.usage.Use.{Use}
use Rattle.coverage_check.specs.Cover.{odd_of, IsOddIn}
use Rattle.coverage_check.specs.Kept.{OddArea, odds_of}
use Rattle.coverage_check.specs.Uses.{used_by, IsUseBelow, AreRisingUses, IsUsed, uses_from}
use Rattle.coverage_check.proofs.Counts.{Contains-map, from_map}

-- ---- strictly sorted lists
pub strictly_pairs : {X : Type 0} (R : X → X → Ordering) (xs : List X) → IsStrictlySortedBy R xs → AllPairs (λ x y. R x y ≡ Less) xs
unfolding IsStrictlySortedBy
strictly_pairs R [] s = λ i j d l m. absurd (omega arith)
strictly_pairs {X} R (x ∷ xs) s = go (All-from_recursion (λ y. R x y ≡ Less) xs s.0) (strictly_pairs R xs s.1)
  where
    go : All (λ y. R x y ≡ Less) xs → AllPairs (λ x y. R x y ≡ Less) xs → AllPairs (λ x y. R x y ≡ Less) (x ∷ xs)
    go a p zero zero d l m = absurd (omega arith)
    go a p zero (suc j) d l m = a j d (omega arith)
    go a p (suc i) zero d l m = absurd (omega arith)
    go a p (suc i) (suc j) d l m = p i j d (omega arith) (omega arith)

pub rising_edges : (es : List Edge) → IsStrictlySortedBy edge_order es → IsRisingEdges es
unfolding IsStrictlySortedBy
rising_edges [] s = tt
rising_edges (e ∷ es) s = ((λ k d l. (edge_less e (get_or es k d)).0 (All-from_recursion (λ f. edge_order e f ≡ Less) es s.0 k d l)), rising_edges es s.1)

int_less : (x y : ℤ) → int_cmp x y ≡ Less → x <ℤ y
int_less x y h = grind (arith, ints)

pub rising_heights : (hs : List ℤ) → IsStrictlySortedBy int_cmp hs → IsRising hs
unfolding IsStrictlySortedBy
rising_heights [] s = tt
rising_heights (h ∷ hs) s = ((λ k d l. int_less h (get_or hs k d) (All-from_recursion (λ z. int_cmp h z ≡ Less) hs s.0 k d l)), rising_heights hs s.1)

-- ---- the order of uses
abbrev pub use_order : Use → Use → Ordering
use_order u v = ordering_then (edge_order u.edge v.edge) (nat_cmp u.area v.area)

pub use_order_total : IsTotalOrder use_order
use_order_total = then_total (on_total (λ u. u.edge) edge_order_total) (on_total (λ u. u.area) nat_cmp_total)

abbrev point_eq : Point → Point → Bool
point_eq p q = int_eq p.y q.y && int_eq p.x q.x

abbrev pub edge_eq : Edge → Edge → Bool
edge_eq e f = point_eq e.low f.low && point_eq e.high f.high

abbrev pub use_eq : Use → Use → Bool
use_eq u v = edge_eq u.edge v.edge && eqb u.area v.area

eq_then : (o r : Ordering) → is_eq (ordering_then o r) ≡ (is_eq o && is_eq r)
eq_then Less r = refl
eq_then Equal r = refl
eq_then Greater r = refl

nat_ties : (a b : ℕ) → eqb a b ≡ is_eq (nat_cmp a b)
nat_ties a b = grind (arith, nat_tests)

point_ties : (p q : Point) → point_eq p q ≡ is_eq (ordering_then (int_cmp p.y q.y) (int_cmp p.x q.x))
point_ties p q = sym (eq_then (int_cmp p.y q.y) (int_cmp p.x q.x))

pub edge_ties : (e f : Edge) → edge_eq e f ≡ eq_by_cmp edge_order e f
edge_ties e f =
    ap (λ b. b && point_eq e.high f.high) (point_ties e.low f.low)
    ∙ ap (λ b. is_eq (ordering_then (int_cmp e.low.y f.low.y) (int_cmp e.low.x f.low.x)) && b) (point_ties e.high f.high)
    ∙ sym (eq_then (ordering_then (int_cmp e.low.y f.low.y) (int_cmp e.low.x f.low.x)) (ordering_then (int_cmp e.high.y f.high.y) (int_cmp e.high.x f.high.x)))

pub use_ties : (u v : Use) → use_eq u v ≡ eq_by_cmp use_order u v
use_ties u v =
    ap (λ b. b && eqb u.area v.area) (edge_ties u.edge v.edge)
    ∙ ap (λ b. is_eq (edge_order u.edge v.edge) && b) (nat_ties u.area v.area)
    ∙ sym (eq_then (edge_order u.edge v.edge) (nat_cmp u.area v.area))

less_then : (o r : Ordering) → ordering_then o r ≡ Less → (o ≡ Less) ⊎ ((o ≡ Equal) × (r ≡ Less))
less_then Less r h = inl refl
less_then Equal r h = inr (refl, h)
less_then Greater r h = absurd (greater h)
  where
    greater : Greater ≡ Less → ⊥
    greater h = cc

nat_less : (a b : ℕ) → nat_cmp a b ≡ Less → a < b
nat_less a b h = grind (arith, nat_tests)

pub use_less : (u v : Use) → use_order u v ≡ Less → IsUseBelow u v
use_less u v h = elim (less_then (edge_order u.edge v.edge) (nat_cmp u.area v.area) h) [
  | inl l ↦ inl ((edge_less u.edge v.edge).0 l)
  | inr p ↦ inr (same_edges_equal u.edge v.edge (same_edge_is_equal u.edge v.edge ∙ ap is_eq p.0), nat_less u.area v.area p.1)
]

pub rising_uses : (us : List Use) → IsStrictlySortedBy use_order us → AreRisingUses us
rising_uses us s = λ i j d l m. use_less (get_or us i d) (get_or us j d) (strictly_pairs use_order us s i j d l m)

-- ---- whose they are
uses_push : (k : ℕ) (odds : List (List Edge)) (es : List Edge) → uses_from k (odds ++ es ∷ []) ≡ uses_from k odds ++ map (λ e. used_by e (k + length odds)) es
uses_push k [] es = append-nil (map (λ (e : Edge). used_by e k) es) ∙ ap (λ n. map (λ (e : Edge). used_by e n) es) (sym (omega arith))
uses_push k (fs ∷ odds) es =
    ap (λ us. map (λ (e : Edge). used_by e k) fs ++ us) (uses_push (k + 1) odds es)
    ∙ sym (append_assoc (map (λ (e : Edge). used_by e k) fs) (uses_from (k + 1) odds) (map (λ (e : Edge). used_by e (k + 1 + length odds)) es))
    ∙ ap (λ n. (map (λ (e : Edge). used_by e k) fs ++ uses_from (k + 1) odds) ++ map (λ (e : Edge). used_by e n) es) (next k (length odds))
  where
    next : (k n : ℕ) → k + 1 + n ≡ k + suc n
    next k n = omega arith

pub uses_more : (areas : List OddArea) (n : ℕ) (a : OddArea) (us new : List Use) → n < length areas → a ≡ get_or areas n a → us ≡ uses_from 0 (odds_of (take n areas)) → new ≡ us ++ map (λ e. used_by e n) a.odd_edges → new ≡ uses_from 0 (odds_of (take (n + 1) areas))
uses_more areas n a us new l is before now =
    let long : 0 + length (odds_of (take n areas)) ≡ n = omega (arith, length-map (take n areas) (λ (b : OddArea). b.odd_edges), length-take-le n areas (omega arith)) in
    let one = ap (λ (xs : List Use). xs ++ map (λ (e : Edge). used_by e n) a.odd_edges) before in
    let two = ap (λ (i : ℕ). uses_from 0 (odds_of (take n areas)) ++ map (λ (e : Edge). used_by e i) a.odd_edges) (sym long) in
    let three = sym (uses_push 0 (odds_of (take n areas)) a.odd_edges) in
    let four = sym (map_push (λ (b : OddArea). b.odd_edges) (take n areas) a) in
    let five = ap (λ (b : OddArea). take n areas ++ b ∷ []) is ∙ sym (take_more areas n a l) in
    now ∙ one ∙ two ∙ three ∙ ap (λ (xs : List (List Edge)). uses_from 0 xs) (four ∙ ap odds_of five)

mapped : {X Y : Type 0} (f : X → Y) (xs : List X) (x : X) → Contains xs x → Contains (map f xs) (f x)
mapped {X} {Y} f xs x c = subst (λ (y : X). Contains (map f xs) (f y)) c.2 (Contains-map f xs c.0 x c.1)

whose : (k : ℕ) (odds : List (List Edge)) (u : Use) → Contains (uses_from k odds) u → (i : ℕ) × ((u.area ≡ k + i) × Contains (odd_of odds i) u.edge)
whose k [] u c = absurd (omega (arith, c.1))
whose k (es ∷ odds) u c = go (Contains-append_cases (map (λ (e : Edge). used_by e k) es) (uses_from (k + 1) odds) u c) (λ d. whose (k + 1) odds u d)
  where
    go : Contains (map (λ (e : Edge). used_by e k) es) u ⊎ Contains (uses_from (k + 1) odds) u → (Contains (uses_from (k + 1) odds) u → (i : ℕ) × ((u.area ≡ k + 1 + i) × Contains (odd_of odds i) u.edge)) →
        (i : ℕ) × ((u.area ≡ k + i) × Contains (odd_of (es ∷ odds) i) u.edge)
    go (inl a) rest = (let f = from_map (λ (e : Edge). used_by e k) es u a in (0, (omega (arith, ap (λ (v : Use). v.area) f.1.1), subst (λ (e : Edge). Contains es e) (ap (λ (v : Use). v.edge) f.1.1) f.1.0)))
    go (inr b) rest = (let r = rest b in (suc r.0, (omega (arith, r.1.0), r.1.1)))

used_from : (k : ℕ) (odds : List (List Edge)) (i j : ℕ) (e : Edge) → j ≡ k + i → Contains (odd_of odds i) e → Contains (uses_from k odds) (used_by e j)
used_from k [] i j e q c = absurd (omega (arith, c.1))
used_from k (es ∷ odds) zero j e q c = Contains-append_left (map (λ (f : Edge). used_by f k) es) (uses_from (k + 1) odds) (used_by e j) (subst (λ n. Contains (map (λ (f : Edge). used_by f k) es) (used_by e n)) (sym (same q)) (mapped (λ (f : Edge). used_by f k) es e c))
  where
    same : j ≡ k + 0 → j ≡ k
    same q = omega arith
used_from k (es ∷ odds) (suc i) j e q c = Contains-append_right (map (λ (f : Edge). used_by f k) es) (uses_from (k + 1) odds) (used_by e j) (used_from (k + 1) odds i j e (omega arith) c)

pub used_of : (odds : List (List Edge)) (a : ℕ) (e : Edge) → Contains (uses_from 0 odds) (used_by e a) → IsOddIn odds a e
used_of odds a e c = let w = whose 0 odds (used_by e a) c in let same : w.0 ≡ a = omega (arith, w.1.0) in subst (λ n. Contains (odd_of odds n) e) same w.1.1

pub of_used : (odds : List (List Edge)) (a : ℕ) (e : Edge) → IsOddIn odds a e → Contains (uses_from 0 odds) (used_by e a)
of_used odds a e c = used_from 0 odds a a e (omega arith) c

-- ---- equality by the tests
bool_same : (a b : Bool) → (a ≡ true → b ≡ true) → (b ≡ true → a ≡ true) → a ≡ b
bool_same true b f g = sym (f refl)
bool_same false true f g = g refl
bool_same false false f g = refl

pub equivalence : {X : Type 0} (E : X → X → Bool) → ((x : X) → E x x ≡ true) → ((x y : X) → E x y ≡ true → x ≡ y) → IsEquivalence E
equivalence {X} E itself same = record {
  refl = itself;
  symm = λ x y. bool_same (E x y) (E y x) (λ h. subst (λ (z : X). E z x ≡ true) (same x y h) (itself x)) (λ h. subst (λ (z : X). E z y ≡ true) (same y x h) (itself y));
  congr = λ x y z h. ap (λ w. E w z) (same x y h);
}

pub edge_eq_same : (e f : Edge) → edge_eq e f ≡ true → e ≡ f
edge_eq_same e f h = same_edges_equal e f (same_edge_is_equal e f ∙ sym (edge_ties e f) ∙ h)

pub edge_eq_itself : (e : Edge) → edge_eq e e ≡ true
edge_eq_itself e = edge_ties e e ∙ sym (same_edge_is_equal e e) ∙ same_edge_itself e

pub use_eq_same : (u v : Use) → use_eq u v ≡ true → u ≡ v
use_eq_same u v h =
    let p = and_parts (edge_eq u.edge v.edge) (eqb u.area v.area) h in
    ap (λ e. used_by e u.area) (edge_eq_same u.edge v.edge p.0) ∙ ap (λ n. used_by v.edge n) (eqb-true u.area v.area p.1)

pub use_eq_itself : (u : Use) → use_eq u u ≡ true
use_eq_itself u = ap (λ b. b && eqb u.area u.area) (edge_eq_itself u.edge) ∙ eq-eqb u.area u.area refl

-- ---- the edges of uses
not_below : (u v : Use) → IsUseBelow u v → is_lt (edge_order v.edge u.edge) ≡ false
not_below u v (inl h) = sym (edge_below_is_less v.edge u.edge) ∙ edge_below-one_way u.edge v.edge h
not_below u v (inr h) = sym (edge_below_is_less v.edge u.edge) ∙ subst (λ (e : Edge). is_edge_below e u.edge ≡ false) h.0 (edge_below-irreflexive u.edge)

pub sorted_edges : (us : List Use) → AreRisingUses us → IsSorted edge_order (map (λ (u : Use). u.edge) us)
sorted_edges us r = λ k d z l.
    let long = length-map us (λ (u : Use). u.edge) in
    let lt : k + 1 < length us = omega (arith, long) in
    let any : Use = used_by d 0 in
    let one = get_or-map (λ (u : Use). u.edge) us k any d (omega arith) in
    let two = get_or-map (λ (u : Use). u.edge) us (k + 1) any d lt in
    ap (λ e. is_lt (edge_order e (get_or (map (λ (u : Use). u.edge) us) k d))) two ∙ ap (λ e. is_lt (edge_order (get_or us (k + 1) any).edge e)) one
    ∙ not_below (get_or us k any) (get_or us (k + 1) any) (r k (k + 1) any (omega arith) lt)

pub used_edge : (us : List Use) (a : ℕ) (e : Edge) → IsUsed us a e → Contains (map (λ (u : Use). u.edge) us) e
used_edge us a e c = mapped (λ (u : Use). u.edge) us (used_by e a) c

pub edge_used : (us : List Use) (e : Edge) → Contains (map (λ (u : Use). u.edge) us) e → (a : ℕ) × IsUsed us a e
edge_used us e c = let f = from_map (λ (u : Use). u.edge) us e c in (f.0.area, subst (λ (g : Edge). Contains us (used_by g f.0.area)) f.1.1 f.1.0)
