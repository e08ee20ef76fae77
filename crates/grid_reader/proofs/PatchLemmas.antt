-- Patches are the sets that pairs of cells join.
use Rattle.std.proofs.Common.{◌≡◌, ℕ, zero, suc, ◌+◌, ◌<◌, ◌≢◌, length, refl, ap, sym, ◌∙◌, arith, subst, inl, inr, zero-add, suc-add, add-one, List, [], ◌∷◌, slice_index}
use Rattle.std.specs.Prelude.{◌==◌}
use Rattle.std.specs.List.{Contains}
use Rattle.std.proofs.lemmas.Bool.Decides.{Decides-eqb}
use Rattle.json_text.proofs.Cases.{by_cases_of, false_true}
use Rattle.union_find.specs.Sets.{IsPaired, AreSets}
use Rattle.union_find.specs.Sets.{Walk as PairWalk}
use Rattle.union_find.proofs.SetLemmas.{contains_first, contains_later, contains_cases, contains_none, sets_law, set_itself}
use Rattle.grid_reader.specs.Grid.{Grid, value_at}
use Rattle.grid_reader.specs.Walks.{IsRightOf, IsBelow, HaveOneValue, Leads, Adjoin, Walk, InOnePatch}
use Rattle.grid_reader.specs.Joins.{AreJoins}
use Rattle.grid_reader.specs.Patches.{AreLeaders}

-- ---- walks

walk_along : (g : Grid) (u v w : ℕ) (n m : ℕ) → Walk g v u n → Walk g w v m → Walk g w u (n + m)
walk_along g u v w zero m h k = subst (λ (x : ℕ). Walk g w x (0 + m)) (sym h) (rw zero-add k)
walk_along g u v w (suc n) m h k = rw suc-add (h.0, h.1, walk_along g h.0 v w n m h.2 k)

adjoin_back : (g : Grid) (u v : ℕ) → Adjoin g u v → Adjoin g v u
adjoin_back g u v h = elim h [ inl e ↦ inr e | inr e ↦ inl e ]

walk_back : (g : Grid) (u v : ℕ) (n : ℕ) → Walk g v u n → Walk g u v n
walk_back g u v zero h = sym h
walk_back g u v (suc n) h =
    let rest : Walk g h.0 v n = walk_back g h.0 v n h.2 in
    let last : Walk g u h.0 1 = (u, adjoin_back g u h.0 h.1, refl) in
    let whole : Walk g u v (n + 1) = walk_along g v h.0 u n 1 rest last in
    subst (λ (m : ℕ). Walk g u v m) (add-one n) whole

pub patch_itself : (g : Grid) (u : ℕ) → InOnePatch g u u
patch_itself g u = (0, refl)

pub patch_back : (g : Grid) (u v : ℕ) → InOnePatch g u v → InOnePatch g v u
patch_back g u v h = (h.0, walk_back g u v h.0 h.1)

pub patch_along : (g : Grid) (u v w : ℕ) → InOnePatch g u v → InOnePatch g v w → InOnePatch g u w
patch_along g u v w h k = (h.0 + k.0, walk_along g u v w h.0 k.0 h.1 k.1)

pub patch_step : (g : Grid) (u v : ℕ) → Leads g u v → InOnePatch g u v
patch_step g u v h = (1, (v, inl h, refl))

adjoin_value : (g : Grid) (u v : ℕ) → Adjoin g u v → value_at g u ≡ value_at g v
adjoin_value g u v h = elim h [ inl e ↦ e.1.equal | inr e ↦ sym e.1.equal ]

walk_value : (g : Grid) (v : ℕ) (n u : ℕ) → Walk g v u n → value_at g u ≡ value_at g v
walk_value g v zero u h = ap (value_at g) h
walk_value g v (suc n) u h = adjoin_value g u h.0 h.1 ∙ walk_value g v n h.0 h.2

-- cells of one patch have one value
pub patch_value : (g : Grid) (u v : ℕ) → InOnePatch g u v → value_at g u ≡ value_at g v
patch_value g u v h = walk_value g v h.0 u h.1

-- ---- joins

pub split_last : (n i : ℕ) (P : Type 0) → i < n + 1 → (i < n → P) → (i ≡ n → P) → P
split_last n i P h f g =
    by_cases_of (i == n) P
    (λ e. g ((Decides-eqb i n).0 e))
    (λ e. let ne : i ≢ n = λ q. false_true (sym e ∙ (Decides-eqb i n).1 q) in f (omega arith))

-- each cell alone
pub joins_none : (g : Grid) → AreJoins g 0 0 []
joins_none g = record {
  only = λ i j c. contains_none (i, j) c;
  right_done = λ i j k p q. absurd (omega arith);
  under_done = λ i j k p q. absurd (omega arith);
}

-- one more pair
pub joins_pair : (g : Grid) (r u i j : ℕ) (pairs : List (ℕ × ℕ)) → Leads g i j → AreJoins g r u pairs → AreJoins g r u ((i, j) ∷ pairs)
joins_pair g r u i j pairs leads joins = record {
  only = λ k m c.
      elim (contains_cases pairs (i, j) (k, m) c) [
        | inl e ↦ subst (λ (x : ℕ × ℕ). Leads g x.0 x.1) e leads
        | inr h ↦ joins.only k m h
      ];
  right_done = λ k m h p q. contains_later pairs (i, j) (k, m) (joins.right_done k m h p q);
  under_done = λ k m h p q. contains_later pairs (i, j) (k, m) (joins.under_done k m h p q);
}

-- one more cell that is paired with the one to its left, or needs not be
pub right_more : (g : Grid) (r u : ℕ) (pairs : List (ℕ × ℕ)) → AreJoins g r u pairs → ((i : ℕ) → IsRightOf g i r → HaveOneValue g i r → Contains pairs (i, r)) → AreJoins g (r + 1) u pairs
right_more g r u pairs joins last = record {
  only = joins.only;
  right_done = λ i j k p q. split_last r j (Contains pairs (i, j)) k (λ b. joins.right_done i j b p q)
      (λ (e : j ≡ r). subst (λ (m : ℕ). IsRightOf g i m → HaveOneValue g i m → Contains pairs (i, m)) (sym e) (last i) p q);
  under_done = joins.under_done;
}

-- one more cell that is paired with the one above it, or needs not be
pub under_more : (g : Grid) (r u : ℕ) (pairs : List (ℕ × ℕ)) → AreJoins g r u pairs → ((i : ℕ) → IsBelow g i u → HaveOneValue g i u → Contains pairs (i, u)) → AreJoins g r (u + 1) pairs
under_more g r u pairs joins last = record {
  only = joins.only;
  right_done = joins.right_done;
  under_done = λ i j k p q. split_last u j (Contains pairs (i, j)) k (λ b. joins.under_done i j b p q)
      (λ (e : j ≡ u). subst (λ (m : ℕ). IsBelow g i m → HaveOneValue g i m → Contains pairs (i, m)) (sym e) (last i) p q);
}

-- a cell and the one to its left are one more pair
pub right_pair : (g : Grid) (i r u : ℕ) (pairs : List (ℕ × ℕ)) → Leads g i r → r ≡ i + 1 → AreJoins g r u pairs → AreJoins g (r + 1) u ((i, r) ∷ pairs)
right_pair g i r u pairs leads next joins =
    right_more g r u ((i, r) ∷ pairs) (joins_pair g r u i r pairs leads joins)
    (λ k p q. let same : k ≡ i = omega (arith, p.0) in subst (λ (m : ℕ). Contains ((i, r) ∷ pairs) (m, r)) (sym same) (contains_first pairs (i, r)))

-- a cell and the one above it are one more pair
pub under_pair : (g : Grid) (i r u : ℕ) (pairs : List (ℕ × ℕ)) → Leads g i u → u ≡ i + g.columns → AreJoins g r u pairs → AreJoins g r (u + 1) ((i, u) ∷ pairs)
under_pair g i r u pairs leads next joins =
    under_more g r u ((i, u) ∷ pairs) (joins_pair g r u i u pairs leads joins)
    (λ k p q. let same : k ≡ i = omega (arith, p) in subst (λ (m : ℕ). Contains ((i, u) ∷ pairs) (m, u)) (sym same) (contains_first pairs (i, u)))

-- ---- sets of cells

adjoin_of_paired : (g : Grid) (r u : ℕ) (pairs : List (ℕ × ℕ)) → AreJoins g r u pairs → (i j : ℕ) → IsPaired pairs i j → Adjoin g i j
adjoin_of_paired g r u pairs joins i j h = elim h [ inl c ↦ inl (joins.only i j c) | inr c ↦ inr (joins.only j i c) ]

walk_of_pairs : (g : Grid) (r u : ℕ) (pairs : List (ℕ × ℕ)) → AreJoins g r u pairs → (j i n : ℕ) → PairWalk pairs j i n → Walk g j i n
walk_of_pairs g r u pairs joins j i zero h = h
walk_of_pairs g r u pairs joins j i (suc n) h = (h.0, adjoin_of_paired g r u pairs joins i h.0 h.1, walk_of_pairs g r u pairs joins j h.0 n h.2)

pair_of_leads : (g : Grid) (pairs : List (ℕ × ℕ)) → AreJoins g (length g.cells) (length g.cells) pairs → (i j : ℕ) → Leads g i j → Contains pairs (i, j)
pair_of_leads g pairs joins i j h =
    elim h.0 [ inl e ↦ joins.right_done i j h.1.inside e h.1 | inr e ↦ joins.under_done i j h.1.inside e h.1 ]

pairs_of_walk : (g : Grid) (pairs : List (ℕ × ℕ)) → AreJoins g (length g.cells) (length g.cells) pairs → (j i n : ℕ) → Walk g j i n → PairWalk pairs j i n
pairs_of_walk g pairs joins j i zero h = h
pairs_of_walk g pairs joins j i (suc n) h =
    (h.0, elim h.1 [ inl e ↦ inl (pair_of_leads g pairs joins i h.0 e) | inr e ↦ inr (pair_of_leads g pairs joins h.0 i e) ], pairs_of_walk g pairs joins j h.0 n h.2)

-- where all cells are joined, the least cell of its set leads a cell
pub sets_lead : (g : Grid) (pairs : List (ℕ × ℕ)) (heads : List ℕ) → AreJoins g (length g.cells) (length g.cells) pairs → AreSets pairs heads → length heads ≡ length g.cells → AreLeaders g (λ i. slice_index heads i)
sets_lead g pairs heads joins sets long = record {
  one_patch = λ i j h k. (let law = sets_law pairs heads sets i j (omega arith) (omega arith) in (
    λ e. (let way = law.0 e in (way.0, walk_of_pairs g (length g.cells) (length g.cells) pairs joins j i way.0 way.1)),
    λ w. law.1 (w.0, pairs_of_walk g pairs joins j i w.0 w.1),
  ));
  itself = λ i h. (let way = sets.joined i (omega arith) in (way.0, walk_of_pairs g (length g.cells) (length g.cells) pairs joins (slice_index heads i) i way.0 way.1));
  low = λ i h. sets.least i i (omega arith) (set_itself pairs i i refl);
}
