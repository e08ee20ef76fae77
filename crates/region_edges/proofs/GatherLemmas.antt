-- The odd edges of a region's areas, one area after another: how often an edge stands among them, and lists of them for all regions.
use Rattle.std.proofs.Common.{◌≡◌, ◌≢◌, ◌⊎◌, inl, inr, ℕ, zero, suc, ◌+◌, ◌%◌, ◌<◌, ◌==◌, refl, sym, ◌∙◌, ap, subst, arith, add-one, Bool, true, false, true≢false, if◌then◌else◌, ◌&&◌, List, [], ◌∷◌, ◌++◌, length, length-append, append-nil, replicate, take, slice_set, slice_index_or, count_by, All, Vec, Global}
use Rattle.std.specs.List.{list_any}
use Rattle.std.specs.declared.alloc.Global.{Global}
use Rattle.std.proofs.lemmas.Bool.Decides.{Decides-eqb}
use Rattle.std.proofs.lemmas.List.{get_or-set_same, get_or-set_other, get_or-map, get_or-replicate, length-replicate, length-map}
use Rattle.std.proofs.lemmas.List.Folds.{sum_by-replicate}
use Rattle.std.proofs.lemmas.List.Sums.{sum_by-set, sum_by_more, sum_by-cons}
use Rattle.std.proofs.Math.ListN.{length-set}
use Rattle.plane_edge.specs.declared.edge.Edge.{Edge}
use Rattle.plane_edge.specs.Edges.{is_same_edge, IsRisingEdges, occurrences, AreOddOf, HaveEvenEnds}
use Rattle.plane_edge.specs.Line.{is_end_of}
use Rattle.plane_edge.proofs.EvenLists.{bit, bit_yes, bit_no, count-append}
use Rattle.plane_edge.proofs.OddLemmas.{occurrences-cons, occurs_once, odd_even_ends}
use Rattle.coverage_check.specs.Cover.{odd_of}
use Rattle.coverage_check.specs.Kept.{OddArea, odds_of, odd_edge_count}
use Rattle.coverage_check.specs.Parts.{IsOddPart}
use Rattle.region_edges.specs.Gathering.{edges_in, AreGathered}
use Rattle.region_edges.specs.PointSets.{AreRisingLists}
use Rattle.region_edges.specs.RegionEdges.{count_below, is_odd_in, uses_in, AreBorderOf, list_at, edge_count}
use Rattle.agg_base.specs.Lists.{lists_of}

nowhere : OddArea
nowhere = record { class = []; odd_edges = [] }

-- ---- counts
-- of the gathered edges an odd number passes a test exactly where an odd number passes it in an odd number of the region's areas
pub gathered_parity : (odds : List (List Edge)) (region : ℕ → ℕ) (r n : ℕ) (f : Edge → Bool) (test : ℕ → Bool) → ((v : ℕ) → v < n → count_by f (odd_of odds v) % 2 ≡ bit (test v)) → count_by f (edges_in odds region r n) % 2 ≡ count_below n (λ v. (region v == r) && test v) % 2
gathered_parity odds region r zero f test h = refl
gathered_parity odds region r (suc n) f test h = go (region n == r) (gathered_parity odds region r n f test (λ v l. h v (omega arith)))
  where
    before : List Edge
    before = edges_in odds region r n

    counted : ℕ
    counted = count_below n (λ v. (region v == r) && test v)

    go : (b : Bool) → count_by f before % 2 ≡ counted % 2 → count_by f (before ++ (if b then odd_of odds n else [])) % 2 ≡ (counted + (if b && test n then 1 else 0)) % 2
    go true rest = let here = h n (omega arith) in omega (arith, count-append f before (odd_of odds n))
    go false rest = let none : count_by f [] ≡ 0 = refl in omega (arith, count-append f before [])

-- in a rising list an edge stands once or not at all
pub any_or_none : (e : Edge) (es : List Edge) → ((list_any (λ f. is_same_edge e f) es ≡ true) × (0 < occurrences e es)) ⊎ ((list_any (λ f. is_same_edge e f) es ≡ false) × (occurrences e es ≡ 0))
any_or_none e [] = inr (refl, refl)
any_or_none e (f ∷ es) = go (is_same_edge e f) refl (any_or_none e es)
  where
    rest_any : Bool
    rest_any = list_any (λ g. is_same_edge e g) es

    go : (b : Bool) → is_same_edge e f ≡ b → ((rest_any ≡ true) × (0 < occurrences e es)) ⊎ ((rest_any ≡ false) × (occurrences e es ≡ 0))
        → ((list_any (λ g. is_same_edge e g) (f ∷ es) ≡ true) × (0 < occurrences e (f ∷ es))) ⊎ ((list_any (λ g. is_same_edge e g) (f ∷ es) ≡ false) × (occurrences e (f ∷ es) ≡ 0))
    go true s rest = inl (rw s refl, (let one = bit_yes (is_same_edge e f) s in omega (arith, occurrences-cons e f es)))
    go false s (inl h) = inl (rw s h.0, (let m = h.1 in omega (arith, occurrences-cons e f es)))
    go false s (inr h) = inr (rw s h.0, (let none = bit_no (is_same_edge e f) s in let m = h.1 in omega (arith, occurrences-cons e f es)))

stands_once : (e : Edge) (es : List Edge) → IsRisingEdges es → occurrences e es % 2 ≡ bit (list_any (λ f. is_same_edge e f) es)
stands_once e es r = elim (any_or_none e es) [
  | inl h ↦ let one = bit_yes (list_any (λ f. is_same_edge e f) es) h.0 in let most = occurs_once e es r in let some = h.1 in omega arith
  | inr h ↦ let none = bit_no (list_any (λ f. is_same_edge e f) es) h.0 in let m = h.1 in omega arith
]

-- an edge stands an odd number of times among the gathered edges exactly where it is odd in an odd number of the region's areas
pub stands_as_used : (odds : List (List Edge)) (region : ℕ → ℕ) (r : ℕ) → AreRisingLists odds → (e : Edge) → occurrences e (edges_in odds region r (length odds)) % 2 ≡ uses_in odds region r e % 2
stands_as_used odds region r rising e =
    gathered_parity odds region r (length odds) (λ f. is_same_edge e f) (λ v. is_odd_in odds v e) (λ v l. stands_once e (odd_of odds v) (rising v l))

-- so the odd ones of the gathered edges are the border edges
pub border_of_gathered : (odds : List (List Edge)) (region : ℕ → ℕ) (r : ℕ) (edges : List Edge) → AreRisingLists odds → AreOddOf (edges_in odds region r (length odds)) edges → AreBorderOf odds region r edges
border_of_gathered odds region r edges rising a = record {
  rising = a.rising;
  exact = λ e. (
    (λ c. sym (stands_as_used odds region r rising e) ∙ (a.exact e).0 c),
    (λ b. (a.exact e).1 (stands_as_used odds region r rising e ∙ b)),
  );
}

-- each point is an end of an even number of the gathered edges
pub gathered_even : (odds : List (List Edge)) (region : ℕ → ℕ) (r n : ℕ) → ((v : ℕ) → v < n → HaveEvenEnds (odd_of odds v)) → HaveEvenEnds (edges_in odds region r n)
gathered_even odds region r zero h = λ p. refl
gathered_even odds region r (suc n) h = λ p. go p (region n == r) (gathered_even odds region r n (λ v l. h v (omega arith)) p)
  where
    go : (p : _) (b : Bool) → count_by (λ e. is_end_of e p) (edges_in odds region r n) % 2 ≡ 0 → count_by (λ e. is_end_of e p) (edges_in odds region r n ++ (if b then odd_of odds n else [])) % 2 ≡ 0
    go p true rest = let here = h n (omega arith) p in omega (arith, count-append (λ e. is_end_of e p) (edges_in odds region r n) (odd_of odds n))
    go p false rest = let none : count_by (λ (e : Edge). is_end_of e p) [] ≡ 0 = refl in omega (arith, count-append (λ e. is_end_of e p) (edges_in odds region r n) [])

-- ---- lists for all regions
-- the list of a region that vectors hold
pub list_held : (vs : List (Vec Edge Global)) (d : Vec Edge Global) (r : ℕ) → r < length vs → list_at (lists_of vs) r ≡ (slice_index_or vs r d).items
list_held vs d r h = get_or-map (λ v. v.items) vs r d [] h

-- no area is gathered yet
pub none_gathered : (odds : List (List Edge)) (region : ℕ → ℕ) (regions : ℕ) (xs : List (List Edge)) → xs ≡ replicate regions [] → AreGathered odds region regions 0 xs
none_gathered odds region regions xs is = subst (λ (ys : List (List Edge)). AreGathered odds region regions 0 ys) (sym is) (record {
  one_each = length-replicate regions [];
  each = λ r l. get_or-replicate regions r [] [] l;
  count = sum_by-replicate (λ (es : List Edge). length es) regions [] ∙ omega arith;
})

edges_other : (odds : List (List Edge)) (region : ℕ → ℕ) (r n : ℕ) → (region n == r) ≡ false → edges_in odds region r (suc n) ≡ edges_in odds region r n
edges_other odds region r n e = rw e (append-nil (edges_in odds region r n))

edges_this : (odds : List (List Edge)) (region : ℕ → ℕ) (r n : ℕ) → (region n == r) ≡ true → edges_in odds region r (suc n) ≡ edges_in odds region r n ++ odd_of odds n
edges_this odds region r n e = rw e refl

next_gathered : (odds : List (List Edge)) (region : ℕ → ℕ) (regions n : ℕ) (xs : List (List Edge)) → n < length odds → region n < regions → AreGathered odds region regions n xs
    → AreGathered odds region regions (suc n) (slice_set xs (region n) (list_at xs (region n) ++ odd_of odds n))
next_gathered odds region regions n xs within low g = record {
  one_each = length-set xs (region n) longer ∙ g.one_each;
  each = λ r l. go r l (region n == r) refl;
  count =
      (let long = g.one_each in
      let before = g.count in
      let set = sum_by-set (λ (es : List Edge). length es) xs (region n) longer [] (omega arith) in
      let joined = length-append (list_at xs (region n)) (odd_of odds n) in
      let more : edge_count (take (suc n) odds) ≡ edge_count (take n odds) + length (odd_of odds n) = rw (sym (add-one n)) (sum_by_more (λ (es : List Edge). length es) odds n [] within) in
      omega arith);
}
  where
    longer : List Edge
    longer = list_at xs (region n) ++ odd_of odds n

    go : (r : ℕ) → r < regions → (b : Bool) → (region n == r) ≡ b → list_at (slice_set xs (region n) longer) r ≡ edges_in odds region r (suc n)
    go r l true e =
        let same : region n ≡ r = (Decides-eqb (region n) r).0 e in
        let long = g.one_each in
        ap (list_at (slice_set xs (region n) longer)) (sym same)
        ∙ get_or-set_same xs (region n) longer [] (omega arith)
        ∙ ap (λ (es : List Edge). es ++ odd_of odds n) (g.each (region n) low ∙ ap (λ q. edges_in odds region q n) same)
        ∙ sym (edges_this odds region r n e)
    go r l false e =
        let other : r ≢ region n = λ s. true≢false (sym ((Decides-eqb (region n) r).1 (sym s)) ∙ e) in
        get_or-set_other xs (region n) r longer [] other ∙ g.each r l ∙ sym (edges_other odds region r n e)

-- one area more is gathered
pub more_gathered : (odds : List (List Edge)) (region : ℕ → ℕ) (regions n q : ℕ) (xs ys : List (List Edge)) (es : List Edge) → n < length odds → region n < regions → q ≡ region n → es ≡ odd_of odds n
    → ys ≡ slice_set xs q (list_at xs q ++ es) → AreGathered odds region regions n xs → AreGathered odds region regions (n + 1) ys
more_gathered odds region regions n q xs ys es within low this part is g =
    let same : ys ≡ slice_set xs (region n) (list_at xs (region n) ++ odd_of odds n) = is ∙ ap (λ k. slice_set xs k (list_at xs k ++ es)) this ∙ ap (λ (fs : List Edge). slice_set xs (region n) (list_at xs (region n) ++ fs)) part in
    subst (λ m. AreGathered odds region regions m ys) (sym (add-one n)) (subst (λ (zs : List (List Edge)). AreGathered odds region regions (suc n) zs) (sym same) (next_gathered odds region regions n xs within low g))

-- ---- all areas
odd_at : (areas : List OddArea) (v : ℕ) → v < length areas → odd_of (odds_of areas) v ≡ (slice_index_or areas v nowhere).odd_edges
odd_at areas v l = get_or-map (λ a. a.odd_edges) areas v nowhere [] l

-- the odd edges of the areas are in rising order
pub rising_lists : (areas : List OddArea) → All IsOddPart areas → AreRisingLists (odds_of areas)
rising_lists areas parts = λ v l.
    let within : v < length areas = omega (arith, length-map areas (λ (a : OddArea). a.odd_edges)) in
    subst IsRisingEdges (sym (odd_at areas v within)) (parts v nowhere within).rising

-- and each point is an end of an even number of them
even_lists : (areas : List OddArea) → All IsOddPart areas → (v : ℕ) → v < length areas → HaveEvenEnds (odd_of (odds_of areas) v)
even_lists areas parts v l = subst HaveEvenEnds (sym (odd_at areas v l)) (parts v nowhere l).even

-- once all areas are gathered, the odd ones of a region's edges are its border edges, and each point is an end of an even number of them
pub all_gathered : (areas : List OddArea) (region : ℕ → ℕ) (regions r : ℕ) (edges : List (List Edge)) (odd : List Edge) → All IsOddPart areas → AreGathered (odds_of areas) region regions (length areas) edges → r < regions
    → AreOddOf (list_at edges r) odd → AreBorderOf (odds_of areas) region r odd × HaveEvenEnds odd
all_gathered areas region regions r edges odd parts g l is =
    let all : AreOddOf (edges_in (odds_of areas) region r (length areas)) odd = subst (λ (es : List Edge). AreOddOf es odd) (g.each r l) is in
    let whole : AreOddOf (edges_in (odds_of areas) region r (length (odds_of areas))) odd = subst (λ n. AreOddOf (edges_in (odds_of areas) region r n) odd) (sym (length-map areas (λ (a : OddArea). a.odd_edges))) all in (
      border_of_gathered (odds_of areas) region r odd (rising_lists areas parts) whole,
      odd_even_ends (edges_in (odds_of areas) region r (length areas)) odd all (gathered_even (odds_of areas) region r (length areas) (even_lists areas parts)),
    )

-- the areas together have as many odd edges as their lists
pub all_counted : (areas : List OddArea) → edge_count (take (length areas) (odds_of areas)) ≡ odd_edge_count areas
all_counted [] = refl
all_counted (a ∷ areas) =
    sum_by-cons (λ (es : List Edge). length es) a.odd_edges (take (length areas) (odds_of areas)) ∙ ap (λ n. length a.odd_edges + n) (all_counted areas)
    ∙ sym (sum_by-cons (λ (b : OddArea). length b.odd_edges) a areas)
