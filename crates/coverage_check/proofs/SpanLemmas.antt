-- Spans of edges, made and grown, and edges that are passed over.
use Rattle.std.proofs.Common.{◌≡◌, ◌≢◌, ◌⊎◌, inl, inr, ℕ, ◌+◌, ◌<◌, ◌≤◌, sym, ◌∙◌, ap, subst, arith, false, ◌&&◌, List, [], ◌∷◌, ◌++◌, length, get_or, set, slice_index_or, ℤ, ◌≤ℤ◌, ◌<ℤ◌, int_le}
use Rattle.std.specs.Int.{int_min, int_max}
use Rattle.std.proofs.lemmas.Int.{ints}
use Rattle.std.proofs.lemmas.List.{get_or_push, get_or_append_left, get_or-set_same, get_or-set_other, length_push, length-set}
use Rattle.plane_edge.specs.declared.edge.Edge.{Edge}
use Rattle.plane_edge.proofs.SameLemmas.{min-join, max-join}
use Rattle.coverage_check.specs.declared.span.Span.{Span}
use Rattle.coverage_check.specs.Partners.{left_of, right_of, is_across, AreLeft, AreBeside, NeverMeet, MeetsNone}
use Rattle.coverage_check.specs.Spans.{IsSpan, AreSpans}
use Rattle.coverage_check.proofs.PartnerLemmas.{never_beside}

-- ---- one span
pub span_alone : (es : List Edge) (i : ℕ) (e : Edge) (s : Span) → i < length es → ((d : Edge) → e ≡ slice_index_or es i d) →
    s.begin ≡ i → s.end ≡ i + 1 → s.most ≡ right_of e → s.least ≡ left_of e → IsSpan es i s
span_alone es i e s w p b n m l = record {
  begins = omega arith;
  ends = omega arith;
  within = omega arith;
  most = λ j d h k. (let q : i ≡ j = omega arith in
      subst (λ (o : ℕ). right_of (slice_index_or es o d) ≤ℤ s.most) q (subst (λ (g : Edge). right_of g ≤ℤ s.most) (p d) (equal_le (right_of e) s.most (sym m))));
  least = λ j d h k. (let q : i ≡ j = omega arith in
      subst (λ (o : ℕ). s.least ≤ℤ left_of (slice_index_or es o d)) q (subst (λ (g : Edge). s.least ≤ℤ left_of g) (p d) (equal_le s.least (left_of e) l)));
}
  where
    equal_le : (a b : ℤ) → a ≡ b → a ≤ℤ b
    equal_le a b h = grind (arith, ints)

before_or_at : (j i : ℕ) → j ≤ i + 1 → (j ≤ i) ⊎ (i + 1 ≤ j)
before_or_at j i = grind arith

at_or_after : (i j : ℕ) → i ≤ j → (j ≤ i) ⊎ (i + 1 ≤ j)
at_or_after i j = grind arith

pub span_back : (es : List Edge) (i : ℕ) (s t u : Span) → IsSpan es i s → IsSpan es (i + 1) t →
    u.begin ≡ s.begin → u.end ≡ t.end → u.most ≡ int_max s.most t.most → u.least ≡ t.least → IsSpan es (i + 1) u
span_back es i s t u hs ht b n m l = record {
  begins = omega (arith, hs.begins);
  ends = omega (arith, ht.ends);
  within = omega (arith, ht.within);
  most = λ j d h k. (subst (λ (z : ℤ). right_of (slice_index_or es j d) ≤ℤ z) (sym m) (max-join s.most t.most (right_of (slice_index_or es j d)) (elim (before_or_at j i k) [
    | inl o ↦ inl (hs.most j d (omega arith) o)
    | inr o ↦ inr (ht.most j d (omega (arith, ht.begins)) k)
  ])));
  least = λ j d h k. (subst (λ (z : ℤ). z ≤ℤ left_of (slice_index_or es j d)) (sym l) (ht.least j d h (omega arith)));
}

pub span_on : (es : List Edge) (i : ℕ) (s t u : Span) → IsSpan es i s → IsSpan es (i + 1) t →
    u.begin ≡ s.begin → u.end ≡ t.end → u.most ≡ s.most → u.least ≡ int_min s.least t.least → IsSpan es i u
span_on es i s t u hs ht b n m l = record {
  begins = omega (arith, hs.begins);
  ends = omega (arith, ht.ends);
  within = omega (arith, ht.within);
  most = λ j d h k. (subst (λ (z : ℤ). right_of (slice_index_or es j d) ≤ℤ z) (sym m) (hs.most j d (omega arith) k));
  least = λ j d h k. (subst (λ (z : ℤ). z ≤ℤ left_of (slice_index_or es j d)) (sym l) (min-join s.least t.least (left_of (slice_index_or es j d)) (elim (at_or_after i j h) [
    | inl o ↦ inl (hs.least j d h (omega (arith, hs.ends)))
    | inr o ↦ inr (ht.least j d o (omega arith))
  ])));
}

-- ---- spans of all edges
less_or_at : (i n : ℕ) → i < n + 1 → (i < n) ⊎ (n ≡ i)
less_or_at i n = grind arith

pub spans_more : (es : List Edge) (n : ℕ) (ss ts : List Span) (s : Span) → AreSpans es n ss → IsSpan es n s → ts ≡ ss ++ s ∷ [] → AreSpans es (n + 1) ts
spans_more es n ss ts s h k same = subst (λ (us : List Span). AreSpans es (n + 1) us) (sym same) (record {
  count = length_push ss s ∙ ap (λ m. m + 1) h.count;
  each = λ i d l. (elim (less_or_at i n l) [
    | inl o ↦ subst (λ (t : Span). IsSpan es i t) (sym (get_or_append_left ss (s ∷ []) d i (omega (arith, h.count)))) (h.each i d o)
    | inr o ↦ subst (λ (m : ℕ). IsSpan es m (get_or (ss ++ s ∷ []) m d)) o (subst (λ (t : Span). IsSpan es n t) (sym (get_or_push ss s d n h.count)) k)
  ]);
})

same_or_other : (i j : ℕ) → (i ≡ j) ⊎ (j ≢ i)
same_or_other i j = grind arith

pub spans_set : (es : List Edge) (n i : ℕ) (ss : List Span) (s : Span) → AreSpans es n ss → i < n → IsSpan es i s → AreSpans es n (set ss i s)
spans_set es n i ss s h w k = record {
  count = length-set ss i s ∙ h.count;
  each = λ j d l. (elim (same_or_other i j) [
    | inl o ↦ subst (λ (m : ℕ). IsSpan es m (get_or (set ss i s) m d)) o (subst (λ (t : Span). IsSpan es i t) (sym (get_or-set_same ss i s d (omega (arith, h.count)))) k)
    | inr o ↦ subst (λ (t : Span). IsSpan es j t) (sym (get_or-set_other ss i j s d o)) (h.each j d l)
  ]);
}

-- ---- edges passed over
beyond_left : (a b c d : ℤ) → d <ℤ c → (int_le a b && int_le c d) ≡ false
beyond_left a b c d h = grind (arith, ints)

pub beside_left : (es : List Edge) (i n : ℕ) (left right : ℤ) → AreLeft es i n left → AreBeside es i n left right
beside_left es i n left right h = λ j d l u. beyond_left (left_of (slice_index_or es j d)) right left (right_of (slice_index_or es j d)) (h j d l u)

before : (i j : ℕ) → (i < j) ⊎ (j ≤ i)
before i j = grind arith

-- the edge at i meets none before n + 1, and those from there to before m are beside it
pub none_past : (es : List Edge) (i n m : ℕ) (e : Edge) (left right : ℤ) → MeetsNone es i (n + 1) → ((d : Edge) → e ≡ slice_index_or es i d) →
    left ≡ left_of e → right ≡ right_of e → AreBeside es (n + 1) m left right → MeetsNone es i m
none_past es i n m e left right none p l r beside = λ j d a b. (elim (before j (n + 1)) [
  | inl o ↦ none j d a o
  | inr o ↦ subst (λ (g : Edge). NeverMeet g (slice_index_or es j d)) (p d) (never_beside e (slice_index_or es j d)
      (ap (λ x. is_across (slice_index_or es j d) x (right_of e)) (sym l) ∙ ap (λ x. is_across (slice_index_or es j d) left x) (sym r) ∙ beside j d o b))
])
