-- The listed borders are the links.
use Rattle.std.proofs.Common.{◌≡◌, ℕ, zero, suc, ◌<◌, ◌≤◌, ◌⊎◌, inl, inr, refl, sym, ◌∙◌, ap, subst, arith, true, false, List, [], ◌∷◌, length, get_or, map, Some, None, ℤ, pos, Contains}
use Rattle.std.proofs.Common.{Ordering, Less, Equal, Greater}
use Rattle.std.specs.List.{AllPairs, slice_get}
use Rattle.std.specs.Ordering.{ordering_then, nat_cmp, is_eq}
use Rattle.std.specs.Cmp.{IsTotalOrder}
use Rattle.std.specs.BTreeMap.{BTreeMap, get, IsOrdered}
use Rattle.std.specs.Map.{keys_of}
use Rattle.std.proofs.lemmas.Bool.Decides.{nat_tests}
use Rattle.std.proofs.lemmas.Cmp.{nat_cmp_total, on_total, then_total}
use Rattle.std.proofs.lemmas.List.{get_or-map, length-map}
use Rattle.std.proofs.lemmas.Map.Entries.{btree_map_get_place, place_from_lookup, length-keys_of}
use Rattle.std.proofs.lemmas.Option.{slice_get-get_or, get_or_from_slice_get, slice_get_cases}
use Rattle.std.proofs.Math.ListN.{get_or-eq_default}
use Rattle.plane_edge.specs.declared.edge.Edge.{Edge}
use Rattle.plane_edge.proofs.OddLemmas.{contains_none}
use Rattle.coverage_check.specs.Cover.{odd_of, IsOddIn, IsPlanarCover}
use Rattle.coverage_check.proofs.UseLemmas.{strictly_pairs}
use Rattle.agg_model.specs.declared.problem.Link.{Link}
use Rattle.agg_model.specs.Rules.{IsBelow, link_in}
use Rattle.area_graph.specs.declared.pair.Pair.{Pair}
use Rattle.area_graph.specs.Lengths.{DoTouch, AreLinksOf, common_length}
use Rattle.area_graph.specs.Steps.{pair_cmp, border_in, link_of}
use Rattle.area_graph.proofs.TouchLemmas.{touch_of, of_touch}

pair_order_total : IsTotalOrder pair_cmp
pair_order_total = then_total (on_total (λ p. p.a) nat_cmp_total) (on_total (λ p. p.b) nat_cmp_total)

less_then : (o r : Ordering) → ordering_then o r ≡ Less → (o ≡ Less) ⊎ ((o ≡ Equal) × (r ≡ Less))
less_then Less r h = inl refl
less_then Equal r h = inr (refl, h)
less_then Greater r h = absurd (greater h)
  where
    greater : Greater ≡ Less → ⊥
    greater h = cc

equal_then : (o r : Ordering) → is_eq (ordering_then o r) ≡ true → (o ≡ Equal) × (r ≡ Equal)
equal_then Less r h = absurd (off h)
  where
    off : false ≡ true → ⊥
    off h = cc
equal_then Equal Equal h = (refl, refl)
equal_then Equal Less h = absurd (off h)
  where
    off : false ≡ true → ⊥
    off h = cc
equal_then Equal Greater h = absurd (off h)
  where
    off : false ≡ true → ⊥
    off h = cc
equal_then Greater r h = absurd (off h)
  where
    off : false ≡ true → ⊥
    off h = cc

nat_less : (a b : ℕ) → nat_cmp a b ≡ Less → a < b
nat_less a b h = grind (arith, nat_tests)

nat_equal : (a b : ℕ) → nat_cmp a b ≡ Equal → a ≡ b
nat_equal a b h = grind (arith, nat_tests)

below_of : (p q : Pair) (x y : ℤ) → pair_cmp p q ≡ Less → IsBelow (link_of (p, x)) (link_of (q, y))
below_of p q x y h = elim (less_then (nat_cmp p.a q.a) (nat_cmp p.b q.b) h) [ inl l ↦ inl (nat_less p.a q.a l) | inr r ↦ inr (nat_equal p.a q.a r.0, nat_less p.b q.b r.1) ]

same_pair : (p q : Pair) → is_eq (pair_cmp p q) ≡ true → p ≡ q
same_pair p q h =
    let both = equal_then (nat_cmp p.a q.a) (nat_cmp p.b q.b) h in
    ap (λ (n : ℕ). record { a = n; b = p.b }) (nat_equal p.a q.a both.0) ∙ ap (λ (n : ℕ). record { a = q.a; b = n }) (nat_equal p.b q.b both.1)

key_at : (es : List (Pair × ℤ)) (i : ℕ) (d : Pair × ℤ) (k : Pair) → i < length es → get_or (keys_of es) i k ≡ (get_or es i d).0
key_at [] i d k h = absurd (omega arith)
key_at (e ∷ es) zero d k h = refl
key_at (e ∷ es) (suc i) d k h = key_at es i d k (omega arith)

in_range : {X : Type 0} (xs : List X) (i : ℕ) (x : X) → slice_get xs i ≡ Some x → i < length xs
in_range {X} xs i x h = go (slice_get_cases xs i).1
  where
    off : {P : Type 0} → slice_get xs i ≡ None → P
    off k = cc

    go : ((y : X) × (i < length xs) × (slice_get xs i ≡ Some y) × (get_or xs i y ≡ y)) ⊎ ((length xs ≤ i) × (slice_get xs i ≡ None)) → i < length xs
    go (inl r) = r.1
    go (inr r) = off r.1

-- only an area that there is has an edge
pub there : (odds : List (List Edge)) (b : ℕ) (e : Edge) → IsOddIn odds b e → b < length odds
there odds b e c = go (split b (length odds))
  where
    split : (m n : ℕ) → (m < n) ⊎ (n ≤ m)
    split m n = grind arith

    go : (b < length odds) ⊎ (length odds ≤ b) → b < length odds
    go (inl l) = l
    go (inr l) = absurd (contains_none e (subst (λ (es : List Edge). Contains es e) (get_or-eq_default odds [] l) c))

none : Pair × ℤ
none = (record { a = 0; b = 0 }, pos 0)

pub links_of : (wide high : ℕ) (odds : List (List Edge)) (n : ℕ) (m : BTreeMap Pair ℤ) → IsPlanarCover odds → length odds ≡ n → IsOrdered pair_cmp m → ((q : Pair) → get pair_cmp m q ≡ border_in wide high odds n q) → AreLinksOf wide high odds (map link_of m.entries)
links_of wide high odds n m planar long ordered sums = record {
  rising = rises;
  touch = λ l h. subst (λ (k : Link). DoTouch odds k.a k.b) (sym (at l (inside l h))) (found l (inside l h)).0;
  long = λ l h. subst (λ (k : Link). k.length ≡ pos (common_length wide high (odd_of odds k.a) (odd_of odds k.b))) (sym (at l (inside l h))) (found l (inside l h)).1;
  complete = λ a b t. whole a b t;
}
  where
    es : List (Pair × ℤ)
    es = m.entries

    inside : (l : ℕ) → l < length (map link_of m.entries) → l < length m.entries
    inside l h = omega (arith, length-map m.entries link_of)

    at : (l : ℕ) → l < length m.entries → link_in (map link_of m.entries) l ≡ link_of (get_or m.entries l none)
    at l h = get_or-map link_of m.entries l none (record { a = 0; b = 0; length = pos 0 }) h

    found : (l : ℕ) → l < length m.entries → DoTouch odds (get_or m.entries l none).0.a (get_or m.entries l none).0.b × ((get_or m.entries l none).1 ≡ pos (common_length wide high (odd_of odds (get_or m.entries l none).0.a) (odd_of odds (get_or m.entries l none).0.b)))
    found l h =
        touch_of wide high odds n (get_or m.entries l none).0 (get_or m.entries l none).1 planar
        (sym (sums (get_or m.entries l none).0) ∙ btree_map_get_place pair_order_total m l (get_or m.entries l none).0 (get_or m.entries l none).1 ordered (slice_get-get_or m.entries l none h))

    rises : AllPairs IsBelow (map link_of m.entries)
    rises i j d l h =
        let hj = inside j h in
        let hi : i < length m.entries = omega (arith, hj, l) in
        let k = (get_or m.entries i none).0 in
        let lt = strictly_pairs pair_cmp (keys_of m.entries) ordered i j k l (omega (arith, length-keys_of m.entries, hj)) in
        let lt2 = subst (λ (p : Pair). pair_cmp p (get_or (keys_of m.entries) j k) ≡ Less) (key_at m.entries i none k hi) lt in
        let lt3 = subst (λ (p : Pair). pair_cmp (get_or m.entries i none).0 p ≡ Less) (key_at m.entries j none k hj) lt2 in
        let b = below_of (get_or m.entries i none).0 (get_or m.entries j none).0 (get_or m.entries i none).1 (get_or m.entries j none).1 lt3 in
        let c = subst (λ (x : Link). IsBelow x (link_of (get_or m.entries j none))) (sym (get_or-map link_of m.entries i none d hi)) b in
        subst (λ (x : Link). IsBelow (get_or (map link_of m.entries) i d) x) (sym (get_or-map link_of m.entries j none d hj)) c

    whole : (a b : ℕ) → DoTouch odds a b → (l : ℕ) × ((l < length (map link_of m.entries)) × (((link_in (map link_of m.entries) l).a ≡ a) × ((link_in (map link_of m.entries) l).b ≡ b)))
    whole a b t =
        let q : Pair = record { a = a; b = b } in
        let below : b < n = omega (arith, there odds b t.edge t.in_b, long) in
        let o = of_touch wide high odds n q planar below t in
        let p = place_from_lookup (λ k. is_eq (pair_cmp q k)) m.entries o.0 (sums q ∙ o.1) in
        let same : q ≡ p.1 = same_pair q p.1 p.3 in
        let h = in_range m.entries p.0 (p.1, o.0) p.2 in
        let here : get_or m.entries p.0 none ≡ (p.1, o.0) = get_or_from_slice_get m.entries p.0 (p.1, o.0) none p.2 in
        let link = at p.0 h ∙ ap link_of here in
        (p.0, (omega (arith, length-map m.entries link_of, h), (ap (λ (k : Link). k.a) link ∙ sym (ap (λ (r : Pair). r.a) same), ap (λ (k : Link). k.b) link ∙ sym (ap (λ (r : Pair). r.b) same))))
