-- Spokes and the numbers of points.
use Rattle.std.proofs.Common.{◌≡◌, ◌≢◌, ◌↔◌, ◌⊎◌, inl, inr, ℕ, zero, suc, ◌+◌, ◌<◌, refl, sym, ◌∙◌, ap, subst, arith, add-zero, zero-add, Bool, true, false, ◌||◌, List, [], ◌∷◌, ◌++◌, length, take, get_or, Contains, is_lt, nat_cmp}
use Rattle.std.proofs.Common.{Ordering, Less, Equal, Greater}
use Rattle.std.specs.Cmp.{IsTotalOrder}
use Rattle.std.specs.List.Sorted.{IsPermutation, IsSorted}
use Rattle.std.specs.Ordering.{ordering_then}
use Rattle.std.proofs.lemmas.Cmp.{nat_cmp_total, on_total, then_total}
use Rattle.std.proofs.lemmas.List.{take_more, length-take-le}
use Rattle.std.proofs.lemmas.List.Sorted.{sorted_far, ranks_by, Contains-permutation, IsPermutation-sym}
use Rattle.plane_edge.specs.declared.edge.Edge.{Edge}
use Rattle.plane_edge.specs.declared.point.Point.{Point}
use Rattle.plane_edge.specs.Edges.{is_same_point}
use Rattle.plane_edge.specs.Line.{is_end_of}
use Rattle.plane_edge.proofs.OrderLemmas.{point_order, point_order_total, below_is_less, same_points_equal, same_point_itself}
use Rattle.region_rings.specs.declared.spoke.Spoke.{Spoke}
use Rattle.region_rings.specs.Spokes.{spoke, IsEndAt, spokes_from, AreInOrder, AreSpokesOf, IsFirstAt}

-- a point has one number
pub one_number : (spokes : List Spoke) (p : Point) (m n : ℕ) → IsFirstAt spokes p m → IsFirstAt spokes p n → m ≡ n
one_number spokes p m n f g = go (cases m n)
  where
    any : Spoke
    any = spoke p 0

    cases : (m n : ℕ) → (m ≡ n) ⊎ ((m < n) ⊎ (n < m))
    cases m n = grind arith

    go : (m ≡ n) ⊎ ((m < n) ⊎ (n < m)) → m ≡ n
    go (inl e) = e
    go (inr (inl l)) = absurd (g.first m any l (f.here any))
    go (inr (inr l)) = absurd (f.first n any l (g.here any))

-- different points have different numbers
pub one_point : (spokes : List Spoke) (p q : Point) (m n : ℕ) → p ≢ q → IsFirstAt spokes p m → IsFirstAt spokes q n → m ≢ n
one_point spokes p q m n h f g = λ e. h (sym (f.here any) ∙ ap (λ i. (get_or spokes i any).at) e ∙ g.here any)
  where
    any : Spoke
    any = spoke p 0

-- ---- the spokes of the edges
spokes_push : (k : ℕ) (es : List Edge) (e : Edge) → spokes_from k (es ++ e ∷ []) ≡ (spokes_from k es ++ spoke e.low (k + length es) ∷ []) ++ spoke e.high (k + length es) ∷ []
spokes_push k [] e = ap (λ n. spoke e.low n ∷ spoke e.high n ∷ []) (sym (add-zero k))
spokes_push k (f ∷ es) e =
    ap (λ ss. spoke f.low k ∷ spoke f.high k ∷ ss) (spokes_push (k + 1) es e)
    ∙ ap (λ n. spoke f.low k ∷ spoke f.high k ∷ ((spokes_from (k + 1) es ++ spoke e.low n ∷ []) ++ spoke e.high n ∷ [])) (next k (length es))
  where
    next : (k n : ℕ) → k + 1 + n ≡ k + suc n
    next k n = omega arith

-- the next step of a loop
pub spokes_more : (edges : List Edge) (i : ℕ) (e : Edge) (old one two : List Spoke) → i < length edges → e ≡ get_or edges i e → old ≡ spokes_from 0 (take i edges) → one ≡ old ++ spoke e.low i ∷ [] → two ≡ one ++ spoke e.high i ∷ [] → two ≡ spokes_from 0 (take (i + 1) edges)
spokes_more edges i e old one two l is h p q =
    let more : take i edges ++ e ∷ [] ≡ take (i + 1) edges = ap (λ (f : Edge). take i edges ++ f ∷ []) is ∙ sym (take_more edges i e l) in
    let place : i ≡ 0 + length (take i edges) = omega (arith, length-take-le i edges (omega arith)) in
    q ∙ (ap (λ (ss : List Spoke). ss ++ spoke e.high i ∷ []) (p ∙ ap (λ (ss : List Spoke). ss ++ spoke e.low i ∷ []) h)
    ∙ (ap (λ n. (spokes_from 0 (take i edges) ++ spoke e.low n ∷ []) ++ spoke e.high n ∷ []) place
    ∙ (sym (spokes_push 0 (take i edges) e) ∙ ap (λ (es : List Edge). spokes_from 0 es) more)))

low_end : (e : Edge) (p : Point) → e.low ≡ p → is_end_of e p ≡ true
low_end e p q = ap (λ b. b || is_same_point e.high p) (subst (λ (r : Point). is_same_point e.low r ≡ true) q (same_point_itself e.low))

or_true : (b : Bool) → (b || true) ≡ true
or_true true = refl
or_true false = refl

high_end : (e : Edge) (p : Point) → e.high ≡ p → is_end_of e p ≡ true
high_end e p q = ap (λ b. is_same_point e.low p || b) (subst (λ (r : Point). is_same_point e.high r ≡ true) q (same_point_itself e.high)) ∙ or_true (is_same_point e.low p)

-- the spoke is one of an edge of the list, counted from k on
record IsOneOf (k : ℕ) (es : List Edge) (s : Spoke) (j : ℕ) : Type 0 where
  number : s.edge ≡ k + j
  end : IsEndAt es j s.at

first_of : (k : ℕ) (e : Edge) (es : List Edge) (s : Spoke) → k ≡ s.edge → is_end_of e s.at ≡ true → IsOneOf k (e ∷ es) s 0
first_of k e es s q t = record { number = sym q ∙ sym (add-zero k); end = record { within = omega arith; end = λ d. t } }

later_of : (k : ℕ) (e : Edge) (es : List Edge) (s : Spoke) (j : ℕ) → IsOneOf (k + 1) es s j → IsOneOf k (e ∷ es) s (suc j)
later_of k e es s j o = record { number = o.number ∙ next k j; end = record { within = less j (length es) o.end.within; end = o.end.end } }
  where
    next : (k n : ℕ) → k + 1 + n ≡ k + suc n
    next k n = omega arith

    less : (m n : ℕ) → m < n → suc m < suc n
    less m n h = omega arith

whose : (k : ℕ) (es : List Edge) (s : Spoke) → Contains (spokes_from k es) s → (j : ℕ) × IsOneOf k es s j
whose k [] s c = absurd (omega (arith, c.1))
whose k (e ∷ es) s c = go c.0 c.1 c.2 (λ d. whose (k + 1) es s d)
  where
    go : (n : ℕ) → n < length (spokes_from k (e ∷ es)) → get_or (spokes_from k (e ∷ es)) n s ≡ s → (Contains (spokes_from (k + 1) es) s → (j : ℕ) × IsOneOf (k + 1) es s j) → (j : ℕ) × IsOneOf k (e ∷ es) s j
    go zero h q rest = (0, first_of k e es s (ap (λ (t : Spoke). t.edge) q) (low_end e s.at (ap (λ (t : Spoke). t.at) q)))
    go (suc zero) h q rest = (0, first_of k e es s (ap (λ (t : Spoke). t.edge) q) (high_end e s.at (ap (λ (t : Spoke). t.at) q)))
    go (suc (suc n)) h q rest = (let r = rest (n, omega arith, q) in (suc r.0, later_of k e es s r.0 r.1))

end_cases : (a b : Bool) → (a || b) ≡ true → (a ≡ true) ⊎ (b ≡ true)
end_cases true b h = inl refl
end_cases false b h = inr h

has_spoke : (k : ℕ) (es : List Edge) (i j : ℕ) (p : Point) (d : Edge) → i ≡ k + j → j < length es → is_end_of (get_or es j d) p ≡ true → Contains (spokes_from k es) (spoke p i)
has_spoke k [] i j p d q h t = absurd (omega arith)
has_spoke k (e ∷ es) i zero p d q h t = go (end_cases (is_same_point e.low p) (is_same_point e.high p) t)
  where
    same : k ≡ i
    same = omega arith

    go : (is_same_point e.low p ≡ true) ⊎ (is_same_point e.high p ≡ true) → Contains (spokes_from k (e ∷ es)) (spoke p i)
    go (inl a) = (0, omega arith, ap (λ (r : Point). spoke r k) (same_points_equal e.low p a) ∙ ap (spoke p) same)
    go (inr b) = (1, omega arith, ap (λ (r : Point). spoke r k) (same_points_equal e.high p b) ∙ ap (spoke p) same)
has_spoke k (e ∷ es) i (suc j) p d q h t = (let c = has_spoke (k + 1) es i j p d (omega arith) (omega arith) t in (suc (suc c.0), omega (arith, c.1), c.2))

pub spoke_exact : (es : List Edge) (i : ℕ) (p : Point) → Contains (spokes_from 0 es) (spoke p i) ↔ IsEndAt es i p
spoke_exact es i p = (
  (λ c. (let w = whose 0 es (spoke p i) c in let same : w.0 ≡ i = sym (w.1.number ∙ zero-add w.0) in subst (λ j. IsEndAt es j p) same w.1.end)),
  (λ t. has_spoke 0 es i i p (any i es t.within) (sym (zero-add i)) t.within (t.end (any i es t.within))),
)
  where
    any : (i : ℕ) (es : List Edge) → i < length es → Edge
    any i [] h = absurd (omega arith)
    any i (e ∷ es) h = e

-- ---- their order
abbrev pub spoke_order : Spoke → Spoke → Ordering
spoke_order s t = ordering_then (point_order s.at t.at) (nat_cmp s.edge t.edge)

spoke_order_total : IsTotalOrder spoke_order
spoke_order_total = then_total (on_total (λ s. s.at) point_order_total) (on_total (λ s. s.edge) nat_cmp_total)

not_less : (o r : Ordering) → is_lt (ordering_then o r) ≡ false → is_lt o ≡ false
not_less Less r h = h
not_less Equal r h = refl
not_less Greater r h = refl

pub in_order : (ss : List Spoke) → IsSorted spoke_order ss → AreInOrder ss
in_order ss h = λ i j d l m.
    below_is_less (get_or ss j d).at (get_or ss i d).at
    ∙ not_less (point_order (get_or ss j d).at (get_or ss i d).at) (nat_cmp (get_or ss j d).edge (get_or ss i d).edge)
    (sorted_far (λ s t. is_lt (spoke_order s t)) (ranks_by spoke_order_total (λ s. s)) ss h i j d (omega arith) m)

pub spokes_sorted : (edges : List Edge) (made sorted : List Spoke) → made ≡ spokes_from 0 edges → IsPermutation made sorted → IsSorted spoke_order sorted → AreSpokesOf edges sorted
spokes_sorted edges made sorted q moved up = record {
  ordered = in_order sorted up;
  exact = λ i p. (
    (λ c. (spoke_exact edges i p).0 (subst (λ (ss : List Spoke). Contains ss (spoke p i)) q (Contains-permutation sorted made (spoke p i) (IsPermutation-sym made sorted moved) c))),
    (λ t. Contains-permutation made sorted (spoke p i) moved (subst (λ (ss : List Spoke). Contains ss (spoke p i)) (sym q) ((spoke_exact edges i p).1 t))),
  );
}
