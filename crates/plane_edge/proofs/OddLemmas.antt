-- Rising lists of edges, and the edges that occur an odd number of times.
use Rattle.std.proofs.Common.{◌≡◌, ◌↔◌, ◌⊎◌, inl, inr, ℕ, zero, suc, ◌+◌, ◌%◌, ◌<◌, ◌≤◌, refl, sym, ◌∙◌, ap, subst, arith, Bool, true, false, true≢false, cond, List, [], ◌∷◌, length, slice_index_or, All, Contains, count_by}
use Rattle.std.proofs.lemmas.List.Elements.{All-head, All-tail, All-weaker, All-contains}
use Rattle.plane_edge.specs.declared.edge.Edge.{Edge}
use Rattle.plane_edge.specs.declared.spot.Spot.{Spot}
use Rattle.plane_edge.specs.Edges.{is_same_edge, is_edge_below, IsRisingEdges, occurrences, IsOdd, AreOddOf, HaveEvenEnds}
use Rattle.plane_edge.specs.Line.{is_end_of}
use Rattle.plane_edge.specs.Plane.{is_crossed, IsInside}
use Rattle.plane_edge.proofs.EvenLists.{bit_yes, bit_no, count-cons, same_parity}
use Rattle.plane_edge.proofs.OrderLemmas.{same_edges_equal, same_edge_itself, equal_edges_same, edge_below-irreflexive, edge_below-one_way}

-- ---- rising lists
-- each edge of a rising list is below each later one
pub rising_at : (es : List Edge) → IsRisingEdges es → (i j : ℕ) (d : Edge) → i < j → j < length es → is_edge_below (slice_index_or es i d) (slice_index_or es j d) ≡ true
rising_at [] r i j d h k = absurd (omega arith)
rising_at (e ∷ es) r zero zero d h k = absurd (omega arith)
rising_at (e ∷ es) r zero (suc j) d h k = r.0 j d (omega arith)
rising_at (e ∷ es) r (suc i) zero d h k = absurd (omega arith)
rising_at (e ∷ es) r (suc i) (suc j) d h k = rising_at es r.1 i j d (omega arith) (omega arith)

-- ---- elements
pub contains_first : (e : Edge) (es : List Edge) → Contains (e ∷ es) e
contains_first e es = (0, omega arith, refl)

pub contains_later : (f e : Edge) (es : List Edge) → Contains es f → Contains (e ∷ es) f
contains_later f e es c = (suc c.0, omega (arith, c.1), c.2)

pub contains_none : (e : Edge) → ¬ Contains [] e
contains_none e c = let h = c.1 in omega arith

pub contains_cases : (f e : Edge) (es : List Edge) → Contains (e ∷ es) f → (e ≡ f) ⊎ Contains es f
contains_cases f e es c = go c.0 c.1 c.2
  where
    go : (k : ℕ) → k < length (e ∷ es) → slice_index_or (e ∷ es) k f ≡ f → (e ≡ f) ⊎ Contains es f
    go zero h q = inl q
    go (suc k) h q = inr (k, omega arith, q)

-- ---- occurrences
pub occurrences-cons : (e f : Edge) (es : List Edge) → occurrences e (f ∷ es) ≡ cond (is_same_edge e f) 1 0 + occurrences e es
occurrences-cons e f es = count-cons (λ g. is_same_edge e g) f es

pub count-none : {X : Type 0} (p : X → Bool) (xs : List X) → All (λ x. p x ≡ false) xs → count_by p xs ≡ 0
count-none p [] h = refl
count-none p (x ∷ xs) h =
    let k = bit_no (p x) (All-head (λ y. p y ≡ false) x xs h) in
    omega (arith, count-cons p x xs, count-none p xs (All-tail (λ y. p y ≡ false) x xs h))

occurs_here : (b : Bool) → (b ≡ true) ⊎ (b ≡ false)
occurs_here true = inl refl
occurs_here false = inr refl

pub contains_from_occurs : (e : Edge) (es : List Edge) → 0 < occurrences e es → Contains es e
contains_from_occurs e [] h = absurd (omega arith)
contains_from_occurs e (f ∷ es) h = elim (occurs_here (is_same_edge e f)) [
  | inl k ↦ (0, omega arith, sym (same_edges_equal e f k))
  | inr k ↦
      let z = bit_no (is_same_edge e f) k in
      let c = contains_from_occurs e es (omega (arith, occurrences-cons e f es)) in
      (suc c.0, omega (arith, c.1), c.2)
]

occurs_at : (e : Edge) (es : List Edge) (k : ℕ) → k < length es → slice_index_or es k e ≡ e → 0 < occurrences e es
occurs_at e [] k h q = absurd (omega arith)
occurs_at e (f ∷ es) zero h q =
    let z = bit_yes (is_same_edge e f) (equal_edges_same e f (sym q)) in
    omega (arith, occurrences-cons e f es)
occurs_at e (f ∷ es) (suc k) h q = omega (arith, occurrences-cons e f es, occurs_at e es k (omega arith) q)

pub occurs_from_contains : (e : Edge) (es : List Edge) → Contains es e → 0 < occurrences e es
occurs_from_contains e es c = occurs_at e es c.0 c.1 c.2

other_than_below : (e f g : Edge) → is_same_edge e f ≡ true → is_edge_below f g ≡ true → is_same_edge e g ≡ false
other_than_below e f g h k = elim (occurs_here (is_same_edge e g)) [
  | inl s ↦ absurd (true≢false (sym (subst (λ (d : Edge). is_edge_below f d ≡ true) (sym (same_edges_equal e g s) ∙ same_edges_equal e f h) k) ∙ edge_below-irreflexive f))
  | inr s ↦ s
]

-- in a rising list no edge occurs twice
pub occurs_once : (e : Edge) (es : List Edge) → IsRisingEdges es → occurrences e es ≤ 1
occurs_once e [] r = omega arith
occurs_once e (f ∷ es) r = elim (occurs_here (is_same_edge e f)) [
  | inl k ↦
      let z = bit_yes (is_same_edge e f) k in
      let n = count-none (λ g. is_same_edge e g) es (All-weaker (λ g. is_edge_below f g ≡ true) (λ g. is_same_edge e g ≡ false) (λ g b. other_than_below e f g k b) es r.0) in
      omega (arith, occurrences-cons e f es)
  | inr k ↦
      let z = bit_no (is_same_edge e f) k in
      omega (arith, occurrences-cons e f es, occurs_once e es r.1)
]

-- ---- the odd edges
-- a rising list is that of the odd edges exactly where each edge occurs as often in both, up to an even number
pub odd_from_parity : (steps odd : List Edge) → IsRisingEdges odd → ((e : Edge) → occurrences e odd % 2 ≡ occurrences e steps % 2) → AreOddOf steps odd
odd_from_parity steps odd r h = record {
  rising = r;
  exact = λ e. (
    (λ c. (let a = occurs_from_contains e odd c in let b = occurs_once e odd r in let k = h e in omega arith)),
    (λ o. (let k = h e in contains_from_occurs e odd (omega arith))),
  );
}

pub odd_parity : (steps odd : List Edge) → AreOddOf steps odd → (e : Edge) → occurrences e odd % 2 ≡ occurrences e steps % 2
odd_parity steps odd a e = go (occurrences e odd) refl
  where
    parity : (n : ℕ) → (n % 2 ≡ 0) ⊎ (n % 2 ≡ 1)
    parity n = grind arith

    once : occurrences e odd ≤ 1
    once = occurs_once e odd a.rising

    go : (n : ℕ) → occurrences e odd ≡ n → occurrences e odd % 2 ≡ occurrences e steps % 2
    go zero z = elim (parity (occurrences e steps)) [
      | inl k ↦ omega arith
      | inr k ↦ let p = occurs_from_contains e odd ((a.exact e).1 k) in absurd (omega arith)
    ]
    go (suc n) z = let o : IsOdd e steps = (a.exact e).0 (contains_from_occurs e odd (omega arith)) in omega (arith, once)

-- an odd number of the odd edges passes a test exactly where an odd number of the steps does
pub odd_counts : (steps odd : List Edge) → AreOddOf steps odd → (f : Edge → Bool) → count_by f odd % 2 ≡ count_by f steps % 2
odd_counts steps odd a f = same_parity is_same_edge same_edges_equal same_edge_itself f odd steps (odd_parity steps odd a)

-- each point is an end of an even number of the odd edges too
pub odd_even_ends : (steps odd : List Edge) → AreOddOf steps odd → HaveEvenEnds steps → HaveEvenEnds odd
odd_even_ends steps odd a h = λ p. odd_counts steps odd a (λ e. is_end_of e p) ∙ h p

-- a spot is inside the odd edges exactly where it is inside the steps
pub odd_inside : (steps odd : List Edge) → AreOddOf steps odd → (s : Spot) → IsInside odd s ↔ IsInside steps s
odd_inside steps odd a s =
    let k = odd_counts steps odd a (λ e. is_crossed e s) in ((λ i. sym k ∙ i), (λ i. k ∙ i))

-- ---- one list only
least_of_both : (d e : Edge) (ds es : List Edge) → IsRisingEdges (d ∷ ds) → IsRisingEdges (e ∷ es) → Contains (e ∷ es) d → Contains (d ∷ ds) e → d ≡ e
least_of_both d e ds es r s c k = elim (contains_cases d e es c) [
  | inl p ↦ sym p
  | inr p ↦ elim (contains_cases e d ds k) [
    | inl q ↦ q
    | inr q ↦
        absurd (true≢false (sym (All-contains (λ f. is_edge_below d f ≡ true) ds e r.0 q) ∙ edge_below-one_way e d (All-contains (λ f. is_edge_below e f ≡ true) es d s.0 p)))
  ]
]

rest_of_both : (e : Edge) (ds es : List Edge) → IsRisingEdges (e ∷ ds) → ((f : Edge) → Contains (e ∷ ds) f → Contains (e ∷ es) f) → (f : Edge) → Contains ds f → Contains es f
rest_of_both e ds es r h f c = elim (contains_cases f e es (h f (contains_later f e ds c))) [
  | inl p ↦ absurd (true≢false (sym (All-contains (λ g. is_edge_below e g ≡ true) ds f r.0 c) ∙ subst (λ (g : Edge). is_edge_below e g ≡ false) p (edge_below-irreflexive e)))
  | inr p ↦ p
]

-- two rising lists of the same edges are the same list
pub rising_unique : (ds es : List Edge) → IsRisingEdges ds → IsRisingEdges es → ((f : Edge) → Contains ds f → Contains es f) → ((f : Edge) → Contains es f → Contains ds f) → ds ≡ es
rising_unique [] [] r s h k = refl
rising_unique [] (e ∷ es) r s h k = absurd (contains_none e (k e (contains_first e es)))
rising_unique (d ∷ ds) [] r s h k = absurd (contains_none d (h d (contains_first d ds)))
rising_unique (d ∷ ds) (e ∷ es) r s h k =
    let q : d ≡ e = least_of_both d e ds es r s (h d (contains_first d ds)) (k e (contains_first e es)) in
    let P : Edge → Type 0 = λ c. IsRisingEdges (c ∷ ds) → ((f : Edge) → Contains (c ∷ ds) f → Contains (e ∷ es) f) → ((f : Edge) → Contains (e ∷ es) f → Contains (c ∷ ds) f) → c ∷ ds ≡ e ∷ es in
    subst P (sym q) (λ r2 h2 k2. ap (λ xs. e ∷ xs) (rising_unique ds es r2.1 s.1 (rest_of_both e ds es r2 h2) (rest_of_both e es ds s k2))) r h k

pub odd_unique : (steps a b : List Edge) → AreOddOf steps a → AreOddOf steps b → a ≡ b
odd_unique steps a b p q =
    rising_unique a b p.rising q.rising (λ f c. (q.exact f).1 ((p.exact f).0 c)) (λ f c. (p.exact f).1 ((q.exact f).0 c))
