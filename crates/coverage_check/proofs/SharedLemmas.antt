-- Three uses of one edge stand next to each other in a rising list of uses.
use Rattle.std.proofs.Common.{◌≡◌, ◌≢◌, ◌⊎◌, inl, inr, ℕ, ◌+◌, ◌-◌, ◌<◌, ◌≤◌, refl, sym, ◌∙◌, ap, subst, arith, true, false, true≢false, List, length, slice_index_or, Contains}
use Rattle.std.proofs.lemmas.List.{get_or_default}
use Rattle.plane_edge.specs.declared.edge.Edge.{Edge}
use Rattle.plane_edge.specs.Edges.{is_same_edge, is_edge_below}
use Rattle.plane_edge.proofs.OrderLemmas.{same_edges_equal, equal_edges_same, edge_below-irreflexive, edge_below-one_way, edge_below-trans}
use Rattle.coverage_check.specs.declared.usage.Use.{Use}
use Rattle.coverage_check.specs.Sharing.{IsShared, IsFirstShared}
use Rattle.coverage_check.specs.Uses.{IsUseBelow, AreRisingUses, IsUsed}

-- e is below f, or the same edge
abbrev Upto : Edge → Edge → Type 0
Upto e f = (is_edge_below e f ≡ true) ⊎ (e ≡ f)

-- no three uses of one edge end before n
abbrev pub NoThree : List Use → ℕ → Type 0
NoThree us n = (k : ℕ) (d : Use) → k + 2 < n → (slice_index_or us k d).edge ≢ (slice_index_or us (k + 2) d).edge

-- ---- places
pub record IsUseAt (us : List Use) (k : ℕ) (u : Use) : Type 0 where
  pub within : k < length us
  pub is : (d : Use) → slice_index_or us k d ≡ u

use_at : (us : List Use) (u : Use) (c : Contains us u) → IsUseAt us c.0 u
use_at us u c = record { within = c.1; is = λ d. get_or_default us c.0 d u c.1 ∙ c.2 }

pub use_there : (us : List Use) (k : ℕ) (u : Use) → k < length us → u ≡ slice_index_or us k u → IsUseAt us k u
use_there us k u w q = record { within = w; is = λ d. get_or_default us k d u w ∙ sym q }

in_turn : (us : List Use) → AreRisingUses us → (i j : ℕ) (u v : Use) → IsUseAt us i u → IsUseAt us j v → i < j → IsUseBelow u v
in_turn us r i j u v a b h = subst (λ (w : Use). IsUseBelow w v) (a.is u) (subst (λ (w : Use). IsUseBelow (slice_index_or us i u) w) (b.is u) (r i j u h b.within))

upto : (u v : Use) → IsUseBelow u v → Upto u.edge v.edge
upto u v (inl h) = inl h
upto u v (inr h) = inr h.0

not_below_itself : (e f : Edge) → is_edge_below e f ≡ true → e ≡ f → ⊥
not_below_itself e f h q = true≢false (sym h ∙ subst (λ (g : Edge). is_edge_below e g ≡ false) q (edge_below-irreflexive e))

upto_both : (e f : Edge) → Upto e f → Upto f e → e ≡ f
upto_both e f (inr q) k = q
upto_both e f (inl h) (inr q) = sym q
upto_both e f (inl h) (inl k) = absurd (true≢false (sym k ∙ edge_below-one_way e f h))

upto_at : (us : List Use) → AreRisingUses us → (i j : ℕ) (u v : Use) → IsUseAt us i u → IsUseAt us j v → (i ≡ j) ⊎ (i < j) → Upto u.edge v.edge
upto_at us r i j u v a b (inl q) = inr (ap (λ (w : Use). w.edge) (sym (a.is u) ∙ ap (λ k. slice_index_or us k u) q ∙ b.is u))
upto_at us r i j u v a b (inr h) = upto u v (in_turn us r i j u v a b h)

order : (i j : ℕ) → (i < j) ⊎ ((i ≡ j) ⊎ (j < i))
order i j = grind arith

-- ---- three uses
with_edge : (u : Use) (e : Edge) → u.edge ≡ e → u ≡ record { edge = e; area = u.area }
with_edge u e q = ap (λ (f : Edge). record { edge = f; area = u.area }) q

used : (us : List Use) (k : ℕ) (u : Use) (e : Edge) → IsUseAt us k u → u.edge ≡ e → IsUsed us u.area e
used us k u e a q = (k, a.within, a.is (record { edge = e; area = u.area }) ∙ with_edge u e q)

pub shared_here : (us : List Use) → AreRisingUses us → (k : ℕ) (u v w : Use) → IsUseAt us k u → IsUseAt us (k + 1) v → IsUseAt us (k + 2) w → u.edge ≡ w.edge → IsShared (IsUsed us) w.edge
shared_here us r k u v w a b c q = go (in_turn us r k (k + 1) u v a b (omega arith)) (in_turn us r (k + 1) (k + 2) v w b c (omega arith))
  where
    go : IsUseBelow u v → IsUseBelow v w → IsShared (IsUsed us) w.edge
    go (inl h) (inl m) = absurd (not_below_itself u.edge w.edge (edge_below-trans u.edge v.edge w.edge h m) q)
    go (inl h) (inr m) = absurd (not_below_itself u.edge v.edge h (q ∙ sym m.0))
    go (inr h) (inl m) = absurd (not_below_itself v.edge w.edge m (sym h.0 ∙ q))
    go (inr h) (inr m) = record {
      first = u.area;
      second = v.area;
      third = w.area;
      first_below_second = h.1;
      second_below_third = m.1;
      in_first = used us k u w.edge a q;
      in_second = used us (k + 1) v w.edge b m.0;
      in_third = used us (k + 2) w w.edge c refl;
    }

-- uses of one edge stand in the order of their areas
by_area : (us : List Use) → AreRisingUses us → (i j a b : ℕ) (e : Edge) → IsUseAt us i (record { edge = e; area = a }) → IsUseAt us j (record { edge = e; area = b }) → a < b → i < j
by_area us r i j a b e p q h = elim (order i j) [
  | inl k ↦ k
  | inr o ↦ elim o [
    | inl k ↦
        let s : a ≡ b = ap (λ (w : Use). w.area) (sym (p.is (record { edge = e; area = a })) ∙ ap (λ k. slice_index_or us k (record { edge = e; area = a })) k ∙ q.is (record { edge = e; area = a })) in
        absurd (omega arith)
    | inr k ↦ elim (in_turn us r j i (record { edge = e; area = b }) (record { edge = e; area = a }) q p k) [
      | inl m ↦ absurd (not_below_itself e e m refl)
      | inr m ↦ let t : b < a = m.1 in absurd (omega arith)
    ]
  ]
]

-- of an edge that is odd in three areas the last use stands two behind another
pub record IsThird (us : List Use) (e : Edge) (m : ℕ) : Type 0 where
  pub within : m + 2 < length us
  pub last : (d : Use) → (slice_index_or us (m + 2) d).edge ≡ e
  pub before : (d : Use) → (slice_index_or us m d).edge ≡ e

edge_at : (us : List Use) → AreRisingUses us → (e : Edge) (i m j : ℕ) (u v : Use) → IsUseAt us i u → IsUseAt us j v → u.edge ≡ e → v.edge ≡ e → (i ≡ m) ⊎ (i < m) → (m ≡ j) ⊎ (m < j) → m < length us → (d : Use) → (slice_index_or us m d).edge ≡ e
edge_at us r e i m j u v a b p q h k w d =
    let x : Use = slice_index_or us m d in
    let at : IsUseAt us m x = record { within = w; is = λ c. get_or_default us m c d w } in
    let up : Upto e x.edge = subst (λ (f : Edge). Upto f x.edge) p (upto_at us r i m u x a at h) in
    let down : Upto x.edge e = subst (λ (f : Edge). Upto x.edge f) q (upto_at us r m j x v at b k) in
    upto_both x.edge e down up

pub third : (us : List Use) → AreRisingUses us → (e : Edge) → IsShared (IsUsed us) e → (m : ℕ) × IsThird us e m
third us r e s =
    let a = use_at us (record { edge = e; area = s.first }) s.in_first in
    let b = use_at us (record { edge = e; area = s.second }) s.in_second in
    let c = use_at us (record { edge = e; area = s.third }) s.in_third in
    let i : ℕ = s.in_first.0 in
    let j : ℕ = s.in_third.0 in
    let h : i < s.in_second.0 = by_area us r i s.in_second.0 s.first s.second e a b s.first_below_second in
    let k : s.in_second.0 < j = by_area us r s.in_second.0 j s.second s.third e b c s.second_below_third in
    let whole : j - 2 + 2 ≡ j = omega arith in
    let w : j < length us = c.within in (
      j - 2,
      record {
        within = omega arith;
        last = λ d. ap (λ n. (slice_index_or us n d).edge) whole ∙ ap (λ (u : Use). u.edge) (c.is d);
        before = edge_at us r e i (j - 2) j (record { edge = e; area = s.first }) (record { edge = e; area = s.third }) a c refl refl (grind arith) (inr (omega arith)) (omega arith);
      },
    )

pub none_shared : (us : List Use) (n : ℕ) → AreRisingUses us → length us ≤ n → NoThree us n → (e : Edge) → ¬ IsShared (IsUsed us) e
none_shared us n r w none e s =
    let t = third us r e s in
    let d : Use = record { edge = e; area = s.first } in
    none t.0 d (omega (arith, t.1.within)) (t.1.before d ∙ sym (t.1.last d))

pub first_shared_here : (us : List Use) → AreRisingUses us → (k : ℕ) (u v w : Use) → IsUseAt us k u → IsUseAt us (k + 1) v → IsUseAt us (k + 2) w → u.edge ≡ w.edge → NoThree us (k + 2) → IsFirstShared (IsUsed us) w.edge
first_shared_here us r k u v w a b c q none = record {
  shared = shared_here us r k u v w a b c q;
  least = λ f s h. (let t = third us r f s in elim (order (t.0 + 2) (k + 2)) [
    | inl l ↦ none t.0 w l (t.1.before w ∙ sym (t.1.last w))
    | inr o ↦ let p : Upto w.edge f = later t.0 f t.1 o in elim p [
      | inl l ↦ true≢false (sym l ∙ edge_below-one_way f w.edge h)
      | inr l ↦ not_below_itself f w.edge h (sym l)
    ]
  ]);
}
  where
    later : (m : ℕ) (f : Edge) → IsThird us f m → (m + 2 ≡ k + 2) ⊎ (k + 2 < m + 2) → Upto w.edge f
    later m f t o =
        let x : Use = slice_index_or us (m + 2) w in
        let at : IsUseAt us (m + 2) x = record { within = t.within; is = λ d. get_or_default us (m + 2) d w t.within } in
        subst (λ (g : Edge). Upto w.edge g) (t.last w) (upto_at us r (k + 2) (m + 2) w x c at (turned o))
      where
        turned : (m + 2 ≡ k + 2) ⊎ (k + 2 < m + 2) → (k + 2 ≡ m + 2) ⊎ (k + 2 < m + 2)
        turned (inl e) = inl (sym e)
        turned (inr e) = inr e

-- ---- as the loop reads the list
read_use : (us : List Use) (k : ℕ) (d : Use) → k < length us → slice_index_or us k d ≡ slice_index_or us k (slice_index_or us k d)
read_use us k d w = get_or_default us k d (slice_index_or us k d) w

shared_from : (us : List Use) → AreRisingUses us → (k : ℕ) → k + 2 < length us → (a b d : Use) → a ≡ slice_index_or us k a → b ≡ slice_index_or us (k + 2) b → a.edge ≡ b.edge → NoThree us (k + 2) → IsFirstShared (IsUsed us) (slice_index_or us (k + 2) d).edge
shared_from us r k w a b d p q s none =
    let v : Use = slice_index_or us (k + 1) a in
    let middle : IsUseAt us (k + 1) v = record { within = omega arith; is = λ c. get_or_default us (k + 1) c a (omega arith) } in
    let f = first_shared_here us r k a v b (use_there us k a (omega arith) p) middle (use_there us (k + 2) b w q) s none in
    subst (λ (u : Use). IsFirstShared (IsUsed us) u.edge) (q ∙ get_or_default us (k + 2) b d w) f

pub shared_at : (us : List Use) → AreRisingUses us → (i : ℕ) → 2 ≤ i → i < length us → (a b d : Use) → is_same_edge (slice_index_or us (i - 2) a).edge (slice_index_or us i b).edge ≡ true → NoThree us i → IsFirstShared (IsUsed us) (slice_index_or us i d).edge
shared_at us r i h w a b d s none =
    let whole : i - 2 + 2 ≡ i = omega arith in
    let x : Use = slice_index_or us (i - 2) a in
    let y : Use = slice_index_or us i b in
    let P : ℕ → Type 0 = λ n. n < length us → y ≡ slice_index_or us n y → NoThree us n → IsFirstShared (IsUsed us) (slice_index_or us n d).edge in
    let f : P (i - 2 + 2) = λ l m n. shared_from us r (i - 2) l x y d (read_use us (i - 2) a (omega arith)) m (same_edges_equal x.edge y.edge s) n in
    (subst P whole f) w (read_use us i b w) none

pub no_three_more : (us : List Use) (i : ℕ) → 2 ≤ i → i < length us → (a b : Use) → is_same_edge (slice_index_or us (i - 2) a).edge (slice_index_or us i b).edge ≡ false → NoThree us i → NoThree us (i + 1)
no_three_more us i h w a b s none = λ k d l e. (elim (order (k + 2) i) [
  | inl m ↦ none k d m e
  | inr o ↦ elim o [
    | inl m ↦
        let n : i - 2 ≡ k = omega arith in
        let x : slice_index_or us (i - 2) a ≡ slice_index_or us k d = get_or_default us (i - 2) a d (omega arith) ∙ ap (λ j. slice_index_or us j d) n in
        let y : slice_index_or us i b ≡ slice_index_or us (k + 2) d = get_or_default us i b d w ∙ ap (λ j. slice_index_or us j d) (sym m) in
        true≢false (sym (equal_edges_same (slice_index_or us (i - 2) a).edge (slice_index_or us i b).edge (ap (λ (u : Use). u.edge) x ∙ e ∙ sym (ap (λ (u : Use). u.edge) y))) ∙ s)
    | inr m ↦ absurd (omega arith)
  ]
])
