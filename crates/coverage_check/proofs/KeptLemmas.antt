-- The list of odd edges, and that there is just one.
use Rattle.std.proofs.Common.{◌≡◌, ℕ, zero, suc, ◌+◌, ◌%◌, ◌<◌, ◌≤◌, ◌⊎◌, inl, inr, refl, sym, ◌∙◌, ap, subst, arith, Bool, true, false, true≢false, cond, List, [], ◌∷◌, ◌++◌, length, get_or, take, map, All, Contains, append-nil}
use Rattle.std.specs.List.{filter}
use Rattle.std.proofs.lemmas.List.Elements.{All-nil, All-cons, All-head, All-tail, All-weaker, All-push, filter-append}
use Rattle.std.proofs.lemmas.List.{map_more}
use Rattle.plane_edge.specs.declared.edge.Edge.{Edge}
use Rattle.plane_edge.specs.Edges.{is_same_edge, is_edge_below, IsRisingEdges, occurrences, AreOddOf, HaveEvenEnds}
use Rattle.plane_edge.proofs.EvenLists.{bit}
use Rattle.plane_edge.proofs.OrderLemmas.{same_edges_equal, equal_edges_same, edge_below-trans, edge_below-irreflexive, edge_below-one_way, edge_case, below, same, above}
use Rattle.plane_edge.proofs.OddLemmas.{odd_from_parity, odd_unique, occurrences-cons}
use Rattle.plane_edge.specs.Rings.{Area}
use Rattle.coverage_check.specs.Kept.{OddArea, toggled, odd_list, odd_part, has_edge, kept_of}
use Rattle.coverage_check.specs.Parts.{IsOddPart}

-- ---- elements
pub Contains-cases : {X : Type 0} (x y : X) (xs : List X) → Contains (x ∷ xs) y → (x ≡ y) ⊎ Contains xs y
Contains-cases {X} x y xs c = go c.0 c.1 c.2
  where
    go : (k : ℕ) → k < length (x ∷ xs) → get_or (x ∷ xs) k y ≡ y → (x ≡ y) ⊎ Contains xs y
    go zero l e = inl e
    go (suc k) l e = inr (k, omega arith, e)

-- ---- the list of the odd edges
toggled_same : (e f : Edge) (fs : List Edge) → is_same_edge e f ≡ true → toggled e (f ∷ fs) ≡ fs
toggled_same e f fs h = ap (λ b. cond b fs (cond (is_edge_below e f) (e ∷ (f ∷ fs)) (f ∷ toggled e fs))) h

toggled_below : (e f : Edge) (fs : List Edge) → is_same_edge e f ≡ false → is_edge_below e f ≡ true → toggled e (f ∷ fs) ≡ e ∷ (f ∷ fs)
toggled_below e f fs h k = ap (λ b. cond b fs (cond (is_edge_below e f) (e ∷ (f ∷ fs)) (f ∷ toggled e fs))) h ∙ ap (λ b. cond b (e ∷ (f ∷ fs)) (f ∷ toggled e fs)) k

toggled_above : (e f : Edge) (fs : List Edge) → is_same_edge e f ≡ false → is_edge_below e f ≡ false → toggled e (f ∷ fs) ≡ f ∷ toggled e fs
toggled_above e f fs h k = ap (λ b. cond b fs (cond (is_edge_below e f) (e ∷ (f ∷ fs)) (f ∷ toggled e fs))) h ∙ ap (λ b. cond b (e ∷ (f ∷ fs)) (f ∷ toggled e fs)) k

not_same : (e f : Edge) → is_edge_below e f ≡ true → is_same_edge e f ≡ false
not_same e f h = go (is_same_edge e f) refl
  where
    go : (b : Bool) → is_same_edge e f ≡ b → b ≡ false
    go true k = absurd (true≢false (sym (subst (λ (g : Edge). is_edge_below e g ≡ true) (sym (same_edges_equal e f k)) h) ∙ edge_below-irreflexive e))
    go false k = refl

not_same_above : (e f : Edge) → is_edge_below f e ≡ true → is_same_edge e f ≡ false
not_same_above e f h = go (is_same_edge e f) refl
  where
    go : (b : Bool) → is_same_edge e f ≡ b → b ≡ false
    go true k = absurd (true≢false (sym (subst (λ (g : Edge). is_edge_below f g ≡ true) (same_edges_equal e f k) h) ∙ edge_below-irreflexive f))
    go false k = refl

-- the three shapes of the list
pub data Toggling (e f : Edge) (fs : List Edge) : Type 0 where
  out : e ≡ f → toggled e (f ∷ fs) ≡ fs → Toggling e f fs
  before : is_edge_below e f ≡ true → toggled e (f ∷ fs) ≡ e ∷ (f ∷ fs) → Toggling e f fs
  after : is_edge_below f e ≡ true → toggled e (f ∷ fs) ≡ f ∷ toggled e fs → Toggling e f fs

toggling : (e f : Edge) (fs : List Edge) → Toggling e f fs
toggling e f fs = elim (edge_case e f) [
  | same h ↦ out h (toggled_same e f fs (equal_edges_same e f h))
  | below h ↦ before h (toggled_below e f fs (not_same e f h) h)
  | above h ↦ after h (toggled_above e f fs (not_same_above e f h) (edge_below-one_way f e h))
]

toggled_all : (g e : Edge) (fs : List Edge) → is_edge_below g e ≡ true → All (λ f. is_edge_below g f ≡ true) fs → All (λ f. is_edge_below g f ≡ true) (toggled e fs)
toggled_all g e [] h p = All-cons (λ f. is_edge_below g f ≡ true) e [] h p
toggled_all g e (f ∷ fs) h p =
    let P : Edge → Type 0 = λ f. is_edge_below g f ≡ true in
    let rest = toggled_all g e fs h (All-tail P f fs p) in
    elim (toggling e f fs) [
      | out q s ↦ subst (All P) (sym s) (All-tail P f fs p)
      | before q s ↦ subst (All P) (sym s) (All-cons P e (f ∷ fs) h p)
      | after q s ↦ subst (All P) (sym s) (All-cons P f (toggled e fs) (All-head P f fs p) rest)
    ]

toggled_rising : (e : Edge) (fs : List Edge) → IsRisingEdges fs → IsRisingEdges (toggled e fs)
toggled_rising e [] r = (All-nil (λ f. is_edge_below e f ≡ true), tt)
toggled_rising e (f ∷ fs) r =
    let rest = toggled_rising e fs r.1 in
    elim (toggling e f fs) [
      | out q s ↦ subst IsRisingEdges (sym s) r.1
      | before q s ↦ subst IsRisingEdges (sym s) (All-cons (λ g. is_edge_below e g ≡ true) f fs q (All-weaker (λ g. is_edge_below f g ≡ true) (λ g. is_edge_below e g ≡ true) (λ g l. edge_below-trans e f g q l) fs r.0), r)
      | after q s ↦ subst IsRisingEdges (sym s) (toggled_all f e fs q r.0, rest)
    ]

toggled_parity : (g e : Edge) (fs : List Edge) → occurrences g (toggled e fs) % 2 ≡ (bit (is_same_edge g e) + occurrences g fs) % 2
toggled_parity g e [] = ap (λ n. n % 2) (occurrences-cons g e [])
toggled_parity g e (f ∷ fs) =
    let rest = toggled_parity g e fs in
    let here = occurrences-cons g f fs in
    elim (toggling e f fs) [
      | out q s ↦ (let k = ap (λ (z : List Edge). occurrences g z) s in let b = ap (λ (z : Edge). bit (is_same_edge g z)) q in omega (arith, k, b, here))
      | before q s ↦ (let k = ap (λ (z : List Edge). occurrences g z) s in omega (arith, k, occurrences-cons g e (f ∷ fs)))
      | after q s ↦ (let k = ap (λ (z : List Edge). occurrences g z) s in omega (arith, k, occurrences-cons g f (toggled e fs), here, rest))
    ]

pub odd_list_rising : (es : List Edge) → IsRisingEdges (odd_list es)
odd_list_rising [] = tt
odd_list_rising (e ∷ es) = toggled_rising e (odd_list es) (odd_list_rising es)

odd_list_parity : (g : Edge) (es : List Edge) → occurrences g (odd_list es) % 2 ≡ occurrences g es % 2
odd_list_parity g [] = refl
odd_list_parity g (e ∷ es) = omega (arith, toggled_parity g e (odd_list es), odd_list_parity g es, occurrences-cons g e es)

-- it is a list of the odd edges, and the only one
pub odd_list_odd : (steps : List Edge) → AreOddOf steps (odd_list steps)
odd_list_odd steps = odd_from_parity steps (odd_list steps) (odd_list_rising steps) (λ g. odd_list_parity g steps)

pub odd_list_only : (steps odd : List Edge) → AreOddOf steps odd → odd ≡ odd_list steps
odd_list_only steps odd a = odd_unique steps odd (odd_list steps) a (odd_list_odd steps)

abbrev pub outline : List ℕ → List Edge → OddArea
outline c es = record { class = c; odd_edges = es }

pub outlines_same : (c d : List ℕ) (es fs : List Edge) → c ≡ d → es ≡ fs → outline c es ≡ outline d fs
outlines_same c d es fs p q = ap (λ x. outline x es) p ∙ ap (λ x. outline d x) q

toggled_short : (e : Edge) (es : List Edge) → length (toggled e es) ≤ 1 + length es
toggled_short e [] = omega arith
toggled_short e (f ∷ fs) =
    let rest = toggled_short e fs in
    elim (toggling e f fs) [
      | out q s ↦ (let k = ap (λ (z : List Edge). length z) s in omega (arith, k))
      | before q s ↦ (let k = ap (λ (z : List Edge). length z) s in omega (arith, k))
      | after q s ↦ (let k = ap (λ (z : List Edge). length z) s in omega (arith, k, rest))
    ]

pub odd_list_short : (es : List Edge) → length (odd_list es) ≤ length es
odd_list_short [] = omega arith
odd_list_short (e ∷ es) = omega (arith, toggled_short e (odd_list es), odd_list_short es)

-- ---- one area more
kept_next : (areas : List Area) (i : ℕ) (a : Area) → i < length areas → a ≡ get_or areas i a → kept_of (take (i + 1) areas) ≡ kept_of (take i areas) ++ filter has_edge (odd_part a ∷ [])
kept_next areas i a l is =
    ap (λ (xs : List OddArea). filter has_edge xs) (map_more odd_part areas i a l ∙ ap (λ (b : Area). map odd_part (take i areas) ++ odd_part b ∷ []) (sym is))
    ∙ filter-append has_edge (map odd_part (take i areas)) (odd_part a ∷ [])

pub kept_yes : (areas : List Area) (i : ℕ) (a : Area) (o : OddArea) (kept held : List OddArea) → i < length areas → a ≡ get_or areas i a → o ≡ odd_part a → has_edge o ≡ true → IsRisingEdges o.odd_edges → HaveEvenEnds o.odd_edges →
    (kept ≡ kept_of (take i areas)) × All IsOddPart kept → held ≡ kept ++ o ∷ [] → (held ≡ kept_of (take (i + 1) areas)) × All IsOddPart held
kept_yes areas i a o kept held l is part some rising even prior now =
    let one : filter has_edge (odd_part a ∷ []) ≡ odd_part a ∷ [] = ap (λ b. cond b (odd_part a ∷ []) []) (ap has_edge (sym part) ∙ some) in
    let all = All-push IsOddPart kept o prior.1 (record { some = some; rising = rising; even = even }) in
    (now ∙ ap (λ (xs : List OddArea). xs ++ o ∷ []) prior.0 ∙ ap (λ (b : OddArea). kept_of (take i areas) ++ b ∷ []) part ∙ ap (λ (xs : List OddArea). kept_of (take i areas) ++ xs) (sym one) ∙ sym (kept_next areas i a l is), subst (All IsOddPart) (sym now) all)

pub kept_no : (areas : List Area) (i : ℕ) (a : Area) (o : OddArea) (kept held : List OddArea) → i < length areas → a ≡ get_or areas i a → o ≡ odd_part a → has_edge o ≡ false →
    (kept ≡ kept_of (take i areas)) × All IsOddPart kept → held ≡ kept → (held ≡ kept_of (take (i + 1) areas)) × All IsOddPart held
kept_no areas i a o kept held l is part none prior now =
    let one : filter has_edge (odd_part a ∷ []) ≡ [] = ap (λ b. cond b (odd_part a ∷ []) []) (ap has_edge (sym part) ∙ none) in
    (now ∙ prior.0 ∙ sym (append-nil (kept_of (take i areas))) ∙ ap (λ (xs : List OddArea). kept_of (take i areas) ++ xs) (sym one) ∙ sym (kept_next areas i a l is), subst (All IsOddPart) (sym now) prior.1)
