-- A sweep over a sorted list keeps the edges that occur an odd number of times.
use Rattle.std.proofs.Common.{◌≡◌, ◌⊎◌, inl, inr, ℕ, zero, suc, ◌+◌, ◌-◌, ◌%◌, ◌<◌, ◌≤◌, refl, sym, ◌∙◌, ap, subst, arith, zero-add, Bool, true, false, true≢false, ◌&&◌, cond, if◌then◌else◌, List, [], ◌∷◌, ◌++◌, length, take, fold, length-append, nat_lt, slice_index_or, All, IsPermutation, IsSorted, is_lt}
use Rattle.std.proofs.lemmas.Bool.Decides.{nat_tests}
use Rattle.std.proofs.lemmas.List.Elements.{All-nil, All-head, All-tail, All-take, All-push}
use Rattle.std.proofs.lemmas.List.Sorted.{sorted_far, ranks_by, sum_by-IsPermutation}
use Rattle.std.proofs.lemmas.List.{get_or_default, take_all, take_more, length-take}
use Rattle.plane_edge.specs.declared.edge.Edge.{Edge}
use Rattle.plane_edge.specs.Edges.{is_same_edge, is_edge_below, IsRisingEdges, occurrences, AreOddOf}
use Rattle.plane_edge.specs.Sweep.{is_last, toggle}
use Rattle.plane_edge.proofs.EvenLists.{count-append}
use Rattle.plane_edge.proofs.OddLemmas.{rising_at, occurrences-cons, odd_from_parity}
use Rattle.plane_edge.proofs.OrderLemmas.{edge_order, edge_order_total, edge_below_is_less, EdgeCase, edge_case, equal_edges_same, same_edges_equal}
use Rattle.plane_edge.proofs.OrderLemmas.EdgeCase.{below, same, above}

-- g is below no edge of the list
abbrev Upto : Edge → List Edge → Type 0
Upto g es = All (λ f. is_edge_below g f ≡ false) es

-- each edge is below none that comes before it
abbrev InOrder : List Edge → Type 0
InOrder [] = Unit {0}
InOrder (e ∷ es) = All (λ f. is_edge_below f e ≡ false) es × InOrder es

last_parts : (n : ℕ) (b : Bool) → (nat_lt 0 n && b) ≡ true → (0 < n) × (b ≡ true)
last_parts n b h = grind (arith, nat_tests)

last_not : (n : ℕ) (b : Bool) → (nat_lt 0 n && b) ≡ false → 0 < n → b ≡ false
last_not n b h k = grind (arith, nat_tests)

either : (b : Bool) → (b ≡ true) ⊎ (b ≡ false)
either true = inl refl
either false = inr refl

-- ---- the order
rising-take : (n : ℕ) (es : List Edge) → IsRisingEdges es → IsRisingEdges (take n es)
rising-take zero es r = tt
rising-take (suc n) [] r = tt
rising-take (suc n) (e ∷ es) r = (All-take (λ f. is_edge_below e f ≡ true) n es r.0, rising-take n es r.1)

rising-push : (g : Edge) (es : List Edge) → IsRisingEdges es → All (λ f. is_edge_below f g ≡ true) es → IsRisingEdges (es ++ g ∷ [])
rising-push g [] r h = (All-nil (λ f. is_edge_below g f ≡ true), tt)
rising-push g (e ∷ es) r h =
    (All-push (λ f. is_edge_below e f ≡ true) es g r.0 (All-head (λ f. is_edge_below f g ≡ true) e es h), rising-push g es r.1 (All-tail (λ f. is_edge_below f g ≡ true) e es h))

-- an edge that is not the last one of a rising list, and below none of it, is above all of it
above_all : (g : Edge) (es : List Edge) → IsRisingEdges es → Upto g es → is_last es g ≡ false → All (λ f. is_edge_below f g ≡ true) es
above_all g es r u l = λ k d h. at k d h (edge_case (slice_index_or es k d) g)
  where
    default : (k : ℕ) (c d : Edge) → k < length es → slice_index_or es k c ≡ slice_index_or es k d
    default k c d h = get_or_default es k c d h

    top : (k : ℕ) (d : Edge) → k < length es → slice_index_or es k d ≡ g → (k ≡ length es - 1) ⊎ (k < length es - 1) → is_edge_below (slice_index_or es k d) g ≡ true
    top k d h q (inl e) =
        let s : is_same_edge (slice_index_or es (length es - 1) g) g ≡ false = last_not (length es) (is_same_edge (slice_index_or es (length es - 1) g) g) l (omega arith) in
        let t : is_same_edge (slice_index_or es (length es - 1) g) g ≡ true = equal_edges_same (slice_index_or es (length es - 1) g) g (ap (λ i. slice_index_or es i g) (sym e) ∙ default k g d h ∙ q) in
        absurd (true≢false (sym t ∙ s))
    top k d h q (inr e) =
        let b : is_edge_below g (slice_index_or es (length es - 1) d) ≡ true = subst (λ (f : Edge). is_edge_below f (slice_index_or es (length es - 1) d) ≡ true) q (rising_at es r k (length es - 1) d e (omega arith)) in
        absurd (true≢false (sym b ∙ u (length es - 1) d (omega arith)))

    at : (k : ℕ) (d : Edge) → k < length es → EdgeCase (slice_index_or es k d) g → is_edge_below (slice_index_or es k d) g ≡ true
    at k d h (below b) = b
    at k d h (same q) = top k d h q (grind arith)
    at k d h (above b) = absurd (true≢false (sym b ∙ u k d h))

toggle-rising : (g : Edge) (es : List Edge) → IsRisingEdges es → Upto g es → IsRisingEdges (toggle es g)
toggle-rising g es r u = go (is_last es g) refl
  where
    go : (b : Bool) → is_last es g ≡ b → IsRisingEdges (if b then take (length es - 1) es else es ++ g ∷ [])
    go true l = rising-take (length es - 1) es r
    go false l = rising-push g es r (above_all g es r u l)

toggle-all : (P : Edge → Type 0) (g : Edge) (es : List Edge) → P g → All P es → All P (toggle es g)
toggle-all P g es p h = go (is_last es g)
  where
    go : (b : Bool) → All P (if b then take (length es - 1) es else es ++ g ∷ [])
    go true = All-take P (length es - 1) es h
    go false = All-push P es g h p

pub swept-rising : (out rest : List Edge) → IsRisingEdges out → InOrder rest → All (λ g. Upto g out) rest → IsRisingEdges (fold toggle out rest)
swept-rising out [] r o u = r
swept-rising out (g ∷ rest) r o u =
    swept-rising (toggle out g) rest (toggle-rising g out r (All-head (λ h. Upto h out) g rest u)) o.1
    (λ k d h. toggle-all (λ f. is_edge_below (slice_index_or rest k d) f ≡ false) g out (o.0 k d h) (All-tail (λ h. Upto h out) g rest u k d h))

-- ---- the counts
front_and_last : (xs : List Edge) (d : Edge) → 0 < length xs → take (length xs - 1) xs ++ slice_index_or xs (length xs - 1) d ∷ [] ≡ xs
front_and_last xs d h =
    let whole : take (length xs - 1 + 1) xs ≡ xs = take_all (length xs - 1 + 1) xs (omega arith) in
    sym (take_more xs (length xs - 1) d (omega arith)) ∙ whole

toggle-parity : (e g : Edge) (es : List Edge) → occurrences e (toggle es g) % 2 ≡ (occurrences e es + cond (is_same_edge e g) 1 0) % 2
toggle-parity e g es = go (is_last es g) refl
  where
    one : (d : Edge) → occurrences e (d ∷ []) ≡ cond (is_same_edge e d) 1 0
    one d = omega (arith, occurrences-cons e d [])

    twice_gone : (b : Bool) (m n : ℕ) → m + cond b 1 0 ≡ n → m % 2 ≡ (n + cond b 1 0) % 2
    twice_gone true m n h = omega arith
    twice_gone false m n h = omega arith

    go : (b : Bool) → is_last es g ≡ b → occurrences e (if b then take (length es - 1) es else es ++ g ∷ []) % 2 ≡ (occurrences e es + cond (is_same_edge e g) 1 0) % 2
    go true l =
        let p = last_parts (length es) (is_same_edge (slice_index_or es (length es - 1) g) g) l in
        let q : slice_index_or es (length es - 1) g ≡ g = same_edges_equal (slice_index_or es (length es - 1) g) g p.1 in
        let s : take (length es - 1) es ++ g ∷ [] ≡ es = ap (λ d. take (length es - 1) es ++ d ∷ []) (sym q) ∙ front_and_last es g p.0 in
        let c = count-append (λ f. is_same_edge e f) (take (length es - 1) es) (g ∷ []) in
        let t : occurrences e (take (length es - 1) es ++ g ∷ []) ≡ occurrences e es = ap (λ xs. occurrences e xs) s in
        twice_gone (is_same_edge e g) (occurrences e (take (length es - 1) es)) (occurrences e es) (omega (arith, c, t, one g))
    go false l = ap (λ n. n % 2) (count-append (λ f. is_same_edge e f) es (g ∷ []) ∙ ap (λ n. occurrences e es + n) (one g))

pub swept-parity : (e : Edge) (out rest : List Edge) → occurrences e (fold toggle out rest) % 2 ≡ (occurrences e out + occurrences e rest) % 2
swept-parity e out [] = ap (λ n. n % 2) (omega arith)
swept-parity e out (g ∷ rest) =
    let a = swept-parity e (toggle out g) rest in
    let b = toggle-parity e g out in
    omega (arith, occurrences-cons e g rest)

-- ---- the sorted list
in_order : (es : List Edge) → ((i j : ℕ) (d : Edge) → i ≤ j → j < length es → is_lt (edge_order (slice_index_or es j d) (slice_index_or es i d)) ≡ false) → InOrder es
in_order [] h = tt
in_order (e ∷ es) h = (
  (λ k d l. edge_below_is_less (slice_index_or es k d) e ∙ h 0 (suc k) d (omega arith) (omega arith)),
  in_order es (λ i j d p q. h (suc i) (suc j) d (omega arith) (omega arith)),
)

pub swept_odd : (steps sorted : List Edge) → IsPermutation steps sorted → IsSorted edge_order sorted → AreOddOf steps (fold toggle [] sorted)
swept_odd steps sorted p s =
    let far = sorted_far (λ e f. is_lt (edge_order e f)) (ranks_by edge_order_total (λ e. e)) sorted s in
    odd_from_parity steps (fold toggle [] sorted)
    (swept-rising [] sorted tt (in_order sorted far) (λ k d h. All-nil (λ f. is_edge_below (slice_index_or sorted k d) f ≡ false)))
    (λ e. swept-parity e [] sorted ∙ ap (λ n. n % 2) (zero-add (occurrences e sorted) ∙ sum_by-IsPermutation (λ f. cond (is_same_edge e f) 1 0) steps sorted p))

-- ---- the length
toggle-length : (g : Edge) (es : List Edge) → length (toggle es g) ≤ length es + 1
toggle-length g es = go (is_last es g)
  where
    go : (b : Bool) → length (if b then take (length es - 1) es else es ++ g ∷ []) ≤ length es + 1
    go true = simp length-take (omega arith)
    go false = simp length-append (omega arith)

pub swept-length : (out rest : List Edge) → length (fold toggle out rest) ≤ length out + length rest
swept-length out [] = omega arith
swept-length out (g ∷ rest) = omega (arith, swept-length (toggle out g) rest, toggle-length g out)
