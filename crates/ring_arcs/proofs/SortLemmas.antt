-- Arcs as `sort`, `dedup` and `binary_search` see them: vectors, compared by their lists of points.
use Rattle.std.proofs.Common.{◌≡◌, ◌↔◌, ◌⊎◌, inl, inr, ℕ, ◌<◌, ◌≤◌, refl, sym, ◌∙◌, ap, subst, arith, Bool, true, true≢false, List, [], ◌∷◌, length, get_or, Contains, Ok, Err, IsPermutation, Vec, Global}
use Rattle.std.proofs.Common.{Ordering, Less, Equal, Greater}
use Rattle.std.specs.Cmp.{IsTotalOrder, IsEquivalence}
use Rattle.std.specs.Cmp.Lexicographic.{slice_cmp, pointwise, lists_ties}
use Rattle.std.specs.List.{dedup}
use Rattle.std.specs.List.Sorted.{IsStrictlySortedBy, IsBinarySearchResult}
use Rattle.std.specs.Ordering.{is_eq, eq_by_cmp}
use Rattle.std.proofs.lemmas.Bool.{and_parts}
use Rattle.std.proofs.lemmas.Cmp.{on_total, on_equiv, lists_equiv, tied_itself}
use Rattle.std.proofs.lemmas.List.{get_or-map}
use Rattle.std.proofs.lemmas.List.Elements.{All-from_recursion, recursion_from_All}
use Rattle.std.proofs.lemmas.List.Kept.{Any-dedup, Contains-from_dedup}
use Rattle.std.proofs.lemmas.List.Sorted.{Contains-permutation, IsPermutation-sym, searchable_from_sorted}
use Rattle.plane_edge.specs.declared.point.Point.{Point}
use Rattle.agg_base.specs.Lists.{lists_of}
use Rattle.ring_arcs.specs.Ways.{point_order}
use Rattle.ring_arcs.proofs.Counts.{from_map, into_map, all_from_map, all_into_map}
use Rattle.ring_arcs.proofs.NodeLemmas.{sorted_from_strictly}
use Rattle.ring_arcs.proofs.StoreLemmas.{arc_order_total}
use Rattle.ring_arcs.proofs.WayLemmas.{point_eq, point_ties, point_eq_same, point_eq_itself, equivalence}

abbrev pub vec_eq : Vec Point Global → Vec Point Global → Bool
vec_eq v w = pointwise point_eq v.items w.items

abbrev pub vec_order : Vec Point Global → Vec Point Global → Ordering
vec_order v w = slice_cmp point_order v.items w.items

pub vec_order_total : IsTotalOrder vec_order
vec_order_total = on_total (λ (v : Vec Point Global). v.items) arc_order_total

pub vec_ties : (v w : Vec Point Global) → vec_eq v w ≡ eq_by_cmp vec_order v w
vec_ties v w = lists_ties point_order point_ties v.items w.items

pub vec_equivalence : IsEquivalence vec_eq
vec_equivalence = on_equiv (λ (v : Vec Point Global). v.items) (lists_equiv (equivalence point_eq point_eq_itself point_eq_same))

lists_same : (xs ys : List Point) → pointwise point_eq xs ys ≡ true → xs ≡ ys
lists_same [] [] h = refl
lists_same [] (y ∷ ys) h = absurd (true≢false (sym h))
lists_same (x ∷ xs) [] h = absurd (true≢false (sym h))
lists_same (x ∷ xs) (y ∷ ys) h =
    let k = and_parts (point_eq x y) (pointwise point_eq xs ys) h in
    ap (λ (p : Point). p ∷ xs) (point_eq_same x y k.0) ∙ ap (λ (ps : List Point). y ∷ ps) (lists_same xs ys k.1)

-- ---- sorted and each once
pub strictly_lists : (vs : List (Vec Point Global)) → IsStrictlySortedBy vec_order vs → IsStrictlySortedBy (slice_cmp point_order) (lists_of vs)
unfolding IsStrictlySortedBy
strictly_lists [] s = tt
strictly_lists (v ∷ vs) s = (
  recursion_from_All (λ y. slice_cmp point_order v.items y ≡ Less) (lists_of vs) (all_into_map (λ y. slice_cmp point_order v.items y ≡ Less) (λ (w : Vec Point Global). w.items) vs (All-from_recursion (λ w. vec_order v w ≡ Less) vs s.0)),
  strictly_lists vs s.1,
)

pub distinct_kept : (old sorted : List (Vec Point Global)) → IsPermutation old sorted → (arc : List Point) → Contains (lists_of (dedup vec_eq sorted)) arc ↔ Contains (lists_of old) arc
distinct_kept old sorted moved arc = (there, back)
  where
    there : Contains (lists_of (dedup vec_eq sorted)) arc → Contains (lists_of old) arc
    there c =
        let r = from_map (λ (v : Vec Point Global). v.items) (dedup vec_eq sorted) arc c in
        subst (Contains (lists_of old)) r.1.1 (into_map (λ (v : Vec Point Global). v.items) old r.0 (Contains-permutation sorted old r.0 (IsPermutation-sym old sorted moved) (Contains-from_dedup vec_eq sorted r.0 r.1.0)))

    back : Contains (lists_of old) arc → Contains (lists_of (dedup vec_eq sorted)) arc
    back c =
        let r = from_map (λ (v : Vec Point Global). v.items) old arc c in
        let a = Any-dedup vec_equivalence sorted r.0 (Contains-permutation old sorted r.0 moved r.1.0) in
        let same : a.1.items ≡ arc = sym (lists_same r.0.items a.1.items a.4) ∙ r.1.1 in
        subst (Contains (lists_of (dedup vec_eq sorted))) same (into_map (λ (v : Vec Point Global). v.items) (dedup vec_eq sorted) a.1 (a.0, a.2, a.3))

-- ---- a binary search
strictly_vecs : (vs : List (Vec Point Global)) → IsStrictlySortedBy (slice_cmp point_order) (lists_of vs) → IsStrictlySortedBy vec_order vs
unfolding IsStrictlySortedBy
strictly_vecs [] s = tt
strictly_vecs (v ∷ vs) s = (
  recursion_from_All (λ w. vec_order v w ≡ Less) vs (all_from_map (λ y. slice_cmp point_order v.items y ≡ Less) (λ (w : Vec Point Global). w.items) vs (All-from_recursion (λ y. slice_cmp point_order v.items y ≡ Less) (lists_of vs) s.0)),
  strictly_vecs vs s.1,
)

equal_lists : (xs ys : List Point) → slice_cmp point_order xs ys ≡ Equal → xs ≡ ys
equal_lists xs ys h = lists_same xs ys (lists_ties point_order point_ties xs ys ∙ ap is_eq h)

pub found_at : (vs : List (Vec Point Global)) (v : Vec Point Global) (i : ℕ) → IsBinarySearchResult (λ w. vec_order w v) vs (Ok i) → i < length vs → get_or (lists_of vs) i [] ≡ v.items
found_at vs v i h l = get_or-map (λ (w : Vec Point Global). w.items) vs i v [] l ∙ equal_lists (get_or vs i v).items v.items (h v)

not_both : (o : Ordering) → (o ≡ Less) ⊎ (o ≡ Greater) → o ≡ Equal → ⊥
not_both o (inl h) k = cc
not_both o (inr h) k = cc

pub not_lost : (vs : List (Vec Point Global)) (v : Vec Point Global) (i : ℕ) → IsStrictlySortedBy (slice_cmp point_order) (lists_of vs) → Contains (lists_of vs) v.items → IsBinarySearchResult (λ w. vec_order w v) vs (Err i) → ⊥
not_lost vs v i s c h =
    let parted = h (searchable_from_sorted vec_order_total (λ (w : Vec Point Global). w) vs v (sorted_from_strictly vec_order vec_order_total vs (strictly_vecs vs s))) in
    let r = from_map (λ (w : Vec Point Global). w.items) vs v.items c in
    let w : Vec Point Global = r.0 in
    let k : ℕ = r.1.0.0 in
    let apart : (vec_order (get_or vs k w) v ≡ Less) ⊎ (vec_order (get_or vs k w) v ≡ Greater) = elim (cases k i) [
      | inl b ↦ inl (parted.0 k w (omega arith) b)
      | inr b ↦ inr (parted.1 k w b r.1.0.1)
    ] in
    let tied : vec_order (get_or vs k w) v ≡ Equal =
    ap (λ (u : Vec Point Global). vec_order u v) r.1.0.2 ∙ ap (λ (ps : List Point). slice_cmp point_order ps v.items) r.1.1 ∙ tied_itself arc_order_total v.items in
    not_both (vec_order (get_or vs k w) v) apart tied
  where
    cases : (k i : ℕ) → (k < i) ⊎ (i ≤ k)
    cases k i = grind arith
