-- The least edge that is in just one of two lists in rising order.
use Rattle.std.proofs.Common.{◌≡◌, ℕ, zero, suc, ◌⊎◌, inl, inr, refl, sym, ◌∙◌, ap, subst, arith, Bool, true, false, true≢false, cond, List, [], ◌∷◌, drop, All, Contains, Option, Some, None}
use Rattle.std.specs.Prelude.{IfSome, IfNone, slice_get}
use Rattle.std.proofs.lemmas.List.Elements.{All-nil, All-cons, All-weaker, All-contains}
use Rattle.plane_edge.specs.declared.edge.Edge.{Edge}
use Rattle.plane_edge.specs.Edges.{is_same_edge, is_edge_below, IsRisingEdges, IsOdd, AreOddOf}
use Rattle.plane_edge.proofs.OrderLemmas.{same_edges_equal, equal_edges_same, edge_below-trans, edge_below-irreflexive, edge_below-one_way, edge_case, below, same, above}
use Rattle.coverage_check.proofs.KeptLemmas.{Contains-cases}
use Rattle.cert_check.specs.Edges.{AreSameIn, IsInOne, IsLeastInOne, lesser_edge, first_of, have_common_head, first_difference}

-- ---- elements

contains_head : (e : Edge) (es : List Edge) → Contains (e ∷ es) e
contains_head e es = (0, omega arith, refl)

contains_tail : (e f : Edge) (es : List Edge) → Contains es f → Contains (e ∷ es) f
contains_tail e f es c = let within = c.1 in (suc c.0, omega arith, c.2)

-- an edge below all of a list is not in it
outside : (e : Edge) (es : List Edge) → All (λ f. is_edge_below e f ≡ true) es → ¬ Contains es e
outside e es h c = true≢false (sym (All-contains (λ f. is_edge_below e f ≡ true) es e h c) ∙ edge_below-irreflexive e)

-- neither an edge itself nor one above it is below it
not_below : (e f : Edge) → (e ≡ f) ⊎ (is_edge_below e f ≡ true) → ¬ (is_edge_below f e ≡ true)
not_below e f (inl is) h =
    true≢false (sym (subst (λ (g : Edge). is_edge_below f g ≡ true) is h) ∙ edge_below-irreflexive f)
not_below e f (inr less) h = true≢false (sym h ∙ edge_below-one_way e f less)

-- ---- in just one

in_other : (P Q : Edge → Type 0) (e : Edge) → IsInOne P Q e → IsInOne Q P e
in_other P Q e (inl h) = inr h
in_other P Q e (inr h) = inl h

flip : (P Q : Edge → Type 0) (e : Edge) → IsLeastInOne P Q e → IsLeastInOne Q P e
flip P Q e h =
    record { in_one = in_other P Q e h.in_one; least = λ f one. h.least f (in_other Q P f one) }

in_words : (P P' Q Q' : Edge → Type 0) (e : Edge) → AreSameIn P P' → AreSameIn Q Q' → IsInOne P Q e → IsInOne P' Q' e
in_words P P' Q Q' e alike other (inl h) = inl ((alike e).0 h.0, λ q. h.1 ((other e).1 q))
in_words P P' Q Q' e alike other (inr h) = inr ((other e).0 h.0, λ p. h.1 ((alike e).1 p))

back : (P P' : Edge → Type 0) → AreSameIn P P' → AreSameIn P' P
back P P' alike e = ((alike e).1, (alike e).0)

-- the same in other words
pub least_in_words : (P P' Q Q' : Edge → Type 0) (e : Edge) → AreSameIn P P' → AreSameIn Q Q' → IsLeastInOne P Q e → IsLeastInOne P' Q' e
least_in_words P P' Q Q' e alike other h =
    record { in_one = in_words P P' Q Q' e alike other h.in_one; least = λ f one. h.least f (in_words P' P Q' Q f (back P P' alike) (back Q Q' other) one) }

pub same_through : (P Q R : Edge → Type 0) → AreSameIn P Q → AreSameIn Q R → AreSameIn P R
same_through P Q R a b e = (λ p. (b e).0 ((a e).0 p), λ r. (a e).1 ((b e).1 r))

-- there is one least edge at most
pub least_once : (P Q : Edge → Type 0) (e f : Edge) → IsLeastInOne P Q e → IsLeastInOne P Q f → e ≡ f
least_once P Q e f a b =
    elim (edge_case e f) [
      | below h ↦ absurd (b.least e a.in_one h)
      | same h ↦ h
      | above h ↦ absurd (a.least f b.in_one h)
    ]

-- ---- two lists

-- an edge that leads a list and is below all of the other
head_least : (e : Edge) (es fs : List Edge) → IsRisingEdges (e ∷ es) → All (λ f. is_edge_below e f ≡ true) fs → IsLeastInOne (Contains (e ∷ es)) (Contains fs) e
head_least e es fs r h = record {
  in_one = inl (contains_head e es, outside e fs h);
  least = λ f one. not_below e f (at f one);
}
  where
    at : (f : Edge) → IsInOne (Contains (e ∷ es)) (Contains fs) f → (e ≡ f) ⊎ (is_edge_below e f ≡ true)
    at f (inl one) =
        elim (Contains-cases e f es one.0) [
          | inl s ↦ inl s
          | inr c ↦ inr (All-contains (λ g. is_edge_below e g ≡ true) es f r.0 c)
        ]
    at f (inr one) = inr (All-contains (λ g. is_edge_below e g ≡ true) fs f h one.0)

-- where lists differ
abbrev pub Differ : List Edge → List Edge → Option Edge → Type 0
Differ a b None = a ≡ b
Differ a b (Some e) = IsLeastInOne (Contains a) (Contains b) e

-- the same edge in front of both
later : (e f : Edge) (es fs : List Edge) (o : Option Edge) → e ≡ f → IsRisingEdges (e ∷ es) → IsRisingEdges (f ∷ fs) → Differ es fs o → Differ (e ∷ es) (f ∷ fs) o
later e f es fs None h r s d = ap (λ (x : Edge). x ∷ es) h ∙ ap (λ (xs : List Edge). f ∷ xs) d
later e f es fs (Some g) h r s d =
    record { in_one = grow d.in_one; least = λ k one. d.least k (shrink k one) }
  where
    e_out : ¬ Contains es f
    e_out c = outside e es r.0 (subst (λ (x : Edge). Contains es x) (sym h) c)

    f_out : ¬ Contains fs e
    f_out c = outside f fs s.0 (subst (λ (x : Edge). Contains fs x) h c)

    grow : IsInOne (Contains es) (Contains fs) g → IsInOne (Contains (e ∷ es)) (Contains (f ∷ fs)) g
    grow (inl one) = inl (
      contains_tail e g es one.0,
      λ c.
          elim (Contains-cases f g fs c) [
            | inl q ↦ e_out (subst (λ (x : Edge). Contains es x) (sym q) one.0)
            | inr m ↦ one.1 m
          ],
    )
    grow (inr one) = inr (
      contains_tail f g fs one.0,
      λ c.
          elim (Contains-cases e g es c) [
            | inl q ↦ f_out (subst (λ (x : Edge). Contains fs x) (sym q) one.0)
            | inr m ↦ one.1 m
          ],
    )

    shrink : (k : Edge) → IsInOne (Contains (e ∷ es)) (Contains (f ∷ fs)) k → IsInOne (Contains es) (Contains fs) k
    shrink k (inl one) =
        elim (Contains-cases e k es one.0) [
          | inl q ↦ absurd (one.1 (subst (λ (x : Edge). Contains (f ∷ fs) x) (sym h ∙ q) (contains_head f fs)))
          | inr m ↦ inl (m, λ c. one.1 (contains_tail f k fs c))
        ]
    shrink k (inr one) =
        elim (Contains-cases f k fs one.0) [
          | inl q ↦ absurd (one.1 (subst (λ (x : Edge). Contains (e ∷ es) x) (h ∙ q) (contains_head e es)))
          | inr m ↦ inr (m, λ c. one.1 (contains_tail e k es c))
        ]

-- ---- the first difference by its heads

pub same_heads : (e f : Edge) (es fs : List Edge) → is_same_edge e f ≡ true → first_difference (e ∷ es) (f ∷ fs) ≡ first_difference es fs
same_heads e f es fs h = ap (λ b. cond b (first_difference es fs) (Some (lesser_edge e f))) h

pub other_heads : (e f : Edge) (es fs : List Edge) → is_same_edge e f ≡ false → first_difference (e ∷ es) (f ∷ fs) ≡ Some (lesser_edge e f)
other_heads e f es fs h = ap (λ b. cond b (first_difference es fs) (Some (lesser_edge e f))) h

lesser_first : (e f : Edge) → is_edge_below e f ≡ true → lesser_edge e f ≡ e
lesser_first e f h = ap (λ b. cond b e f) h

lesser_second : (e f : Edge) → is_edge_below e f ≡ false → lesser_edge e f ≡ f
lesser_second e f h = ap (λ b. cond b e f) h

-- edges of which one is below the other are not the same
not_same : (e f : Edge) → (e ≡ f → ⊥) → is_same_edge e f ≡ false
not_same e f h = go (is_same_edge e f) refl
  where
    go : (b : Bool) → is_same_edge e f ≡ b → b ≡ false
    go true k = absurd (h (same_edges_equal e f k))
    go false k = refl

pub difference : (a b : List Edge) → IsRisingEdges a → IsRisingEdges b → Differ a b (first_difference a b)
difference [] [] r s = refl
difference [] (f ∷ fs) r s =
    flip (Contains (f ∷ fs)) (Contains []) f (head_least f fs [] s (All-nil (λ g. is_edge_below f g ≡ true)))
difference (e ∷ es) [] r s = head_least e es [] r (All-nil (λ g. is_edge_below e g ≡ true))
difference (e ∷ es) (f ∷ fs) r s =
    let rest = difference es fs r.1 s.1 in
    elim (edge_case e f) [
      | same h ↦
          subst (Differ (e ∷ es) (f ∷ fs)) (sym (same_heads e f es fs (equal_edges_same e f h))) (later e f es fs (first_difference es fs) h r s rest)
      | below h ↦
          (let apart : is_same_edge e f ≡ false = not_same e f (λ q. not_below e f (inl q) (subst (λ (x : Edge). is_edge_below x e ≡ true) q (subst (λ (x : Edge). is_edge_below e x ≡ true) (sym q) h))) in
          let over : All (λ g. is_edge_below e g ≡ true) (f ∷ fs) = All-cons (λ g. is_edge_below e g ≡ true) f fs h (All-weaker (λ g. is_edge_below f g ≡ true) (λ g. is_edge_below e g ≡ true) (λ g l. edge_below-trans e f g h l) fs s.0) in
          subst (Differ (e ∷ es) (f ∷ fs)) (sym (other_heads e f es fs apart ∙ ap (λ (x : Edge). Some x) (lesser_first e f h))) (head_least e es (f ∷ fs) r over))
      | above h ↦
          (let apart : is_same_edge e f ≡ false = not_same e f (λ q. not_below e f (inl q) h) in
          let over : All (λ g. is_edge_below f g ≡ true) (e ∷ es) = All-cons (λ g. is_edge_below f g ≡ true) e es h (All-weaker (λ g. is_edge_below e g ≡ true) (λ g. is_edge_below f g ≡ true) (λ g l. edge_below-trans f e g h l) es r.0) in
          subst (Differ (e ∷ es) (f ∷ fs)) (sym (other_heads e f es fs apart ∙ ap (λ (x : Edge). Some x) (lesser_second e f (edge_below-one_way f e h)))) (flip (Contains (f ∷ fs)) (Contains (e ∷ es)) f (head_least f fs (e ∷ es) s over)))
    ]

-- ---- the edges of an area against those that are due

-- what the first difference says of edges that are odd among steps
pub odd_difference : (steps edges due : List Edge) (o : Option Edge) → AreOddOf steps edges → IsRisingEdges due → o ≡ first_difference edges due
    → IfNone o (AreSameIn (λ e. IsOdd e steps) (λ e. Contains due e)) × IfSome o (IsLeastInOne (λ e. IsOdd e steps) (λ e. Contains due e))
odd_difference steps edges due o odd rising is =
    go o (subst (Differ edges due) (sym is) (difference edges due odd.rising rising))
  where
    go : (o : Option Edge) → Differ edges due o → IfNone o (AreSameIn (λ e. IsOdd e steps) (λ e. Contains due e)) × IfSome o (IsLeastInOne (λ e. IsOdd e steps) (λ e. Contains due e))
    go None d =
        (λ e. (λ h. subst (λ (xs : List Edge). Contains xs e) d ((odd.exact e).1 h), λ h. (odd.exact e).0 (subst (λ (xs : List Edge). Contains xs e) (sym d) h)), tt)
    go (Some e) d =
        (tt, least_in_words (Contains edges) (λ f. IsOdd f steps) (Contains due) (λ f. Contains due f) e odd.exact (λ f. (λ h. h, λ h. h)) d)

-- ---- the code's first difference

-- lists that begin otherwise differ first in the lesser of their heads
heads : (xs ys : List Edge) → have_common_head xs ys ≡ false → first_difference xs ys ≡ first_of (slice_get xs 0) (slice_get ys 0)
heads [] [] h = refl
heads [] (f ∷ fs) h = refl
heads (e ∷ es) [] h = refl
heads (e ∷ es) (f ∷ fs) h = other_heads e f es fs h

get_drop : (n : ℕ) (xs : List Edge) → slice_get (drop n xs) 0 ≡ slice_get xs n
get_drop zero xs = refl
get_drop (suc n) [] = refl
get_drop (suc n) (x ∷ xs) = get_drop n xs

pub heads_at : (a b : List Edge) (n : ℕ) → have_common_head (drop n a) (drop n b) ≡ false → first_difference (drop n a) (drop n b) ≡ first_of (slice_get a n) (slice_get b n)
heads_at a b n h =
    heads (drop n a) (drop n b) h ∙ (ap (λ (o : Option Edge). first_of o (slice_get (drop n b) 0)) (get_drop n a) ∙ ap (λ (o : Option Edge). first_of (slice_get a n) o) (get_drop n b))
