-- Every grid has patches.
use Rattle.std.proofs.Common.{◌≡◌, ◌≢◌, ℕ, zero, suc, ◌+◌, ◌-◌, ◌%◌, ◌<◌, ◌≤◌, ◌==◌, ◌⊎◌, inl, inr, nat_lt, refl, sym, ◌∙◌, subst, arith, false, List, [], ◌∷◌, slice_index, length, replicate, Option, Some, None, ℤ, int_le, add-one, if◌then◌else◌}
use Rattle.std.specs.Prelude.{nat_le}
use Rattle.std.proofs.lemmas.Bool.Decides.{nat_tests, Decides-eqb}
use Rattle.std.proofs.lemmas.Int.{ints}
use Rattle.grid_reader.specs.Grid.{Grid, value_at}
use Rattle.grid_reader.specs.Walks.{IsRightOf, IsBelow, HaveOneValue, Leads}
use Rattle.grid_reader.specs.Joins.{AreJoins}
use Rattle.grid_reader.specs.Patches.{AreLeaders, AreNumbered, ArePatches}
use Rattle.grid_reader.specs.Members.{AreMembers, put}
use Rattle.json_text.proofs.Cases.{by_cases_of, false_true}
use Rattle.union_find.proofs.SetLemmas.{some_sets}
use Rattle.grid_reader.proofs.PatchLemmas.{joins_none, right_more, under_more, right_pair, under_pair, sets_lead}
use Rattle.grid_reader.proofs.NumberLemmas.{numbered_none, numbered_first, numbered_further, numbered_start}
use Rattle.grid_reader.proofs.MemberLemmas.{no_cells, cell_done}

same_or : (y z : ℤ) → (y ≡ z) ⊎ ¬ (y ≡ z)
same_or y z =
    by_cases_of (int_le y z) _
    (λ a. by_cases_of (int_le z y) _
    (λ b. inl (grind (arith, ints)))
    (λ b. inr (λ s. false_true (sym b ∙ grind (arith, ints)))))
    (λ a. inr (λ s. false_true (sym a ∙ grind (arith, ints))))

value_or : (g : Grid) (i j : ℕ) → HaveOneValue g i j ⊎ ¬ (HaveOneValue g i j)
value_or g i j =
    by_cases_of (nat_lt j (length g.cells)) _
    (λ low. elim (same_or (value_at g i) (value_at g j)) as (λ _. HaveOneValue g i j ⊎ ¬ (HaveOneValue g i j)) [
      | inl same ↦ elim (same_or (value_at g j) g.nodata) as (λ _. HaveOneValue g i j ⊎ ¬ (HaveOneValue g i j)) [
        | inl none ↦ inr (λ h. h.data_value none)
        | inr some ↦ inl (record { inside = grind (arith, nat_tests); equal = same; data_value = some })
      ]
      | inr other ↦ inr (λ h. other h.equal)
    ])
    (λ high. inr (λ h. (let inside = h.inside in let more : length g.cells ≤ j = grind (arith, nat_tests) in omega arith)))

-- ---- joins

abbrev Joins : Grid → ℕ → ℕ → Type 0
Joins g r u = (pairs : List (ℕ × ℕ)) × AreJoins g r u pairs

joined_left : (g : Grid) (k u : ℕ) → suc k % g.columns ≢ 0 → HaveOneValue g k (suc k) → Joins g (suc k) u → Joins g (suc k + 1) u
joined_left g k u inner one joins =
    let next : suc k ≡ k + 1 = omega arith in
    ((k, suc k) ∷ joins.0, right_pair g k (suc k) u joins.0 (inl (next, inner), one) next joins.1)

apart_left : (g : Grid) (r u : ℕ) → ((i : ℕ) → IsRightOf g i r → ¬ (HaveOneValue g i r)) → Joins g r u → Joins g (r + 1) u
apart_left g r u none joins = (joins.0, right_more g r u joins.0 joins.1 (λ i p q. absurd (none i p q)))

left_done : (g : Grid) (r u : ℕ) → Joins g r u → Joins g (r + 1) u
left_done g zero u joins = apart_left g 0 u (λ i p q. (let e = p.0 in omega arith)) joins
left_done g (suc k) u joins =
    by_cases_of (suc k % g.columns == 0) _
    (λ e. apart_left g (suc k) u (λ i p q. p.1 ((Decides-eqb (suc k % g.columns) 0).0 e)) joins)
    (λ e.
    let inner : suc k % g.columns ≢ 0 = λ s. false_true (sym e ∙ (Decides-eqb (suc k % g.columns) 0).1 s) in
    elim (value_or g k (suc k)) as (λ _. Joins g (suc k + 1) u) [
      | inl one ↦ joined_left g k u inner one joins
      | inr none ↦ apart_left g (suc k) u
          (λ i p q. (let e = p.0 in let same : i ≡ k = omega arith in none (subst (λ (m : ℕ). HaveOneValue g m (suc k)) same q))) joins
    ])

joined_above : (g : Grid) (i r u : ℕ) → u ≡ i + g.columns → HaveOneValue g i u → Joins g r u → Joins g r (u + 1)
joined_above g i r u below one joins = ((i, u) ∷ joins.0, under_pair g i r u joins.0 (inr below, one) below joins.1)

apart_above : (g : Grid) (r u : ℕ) → ((i : ℕ) → IsBelow g i u → ¬ (HaveOneValue g i u)) → Joins g r u → Joins g r (u + 1)
apart_above g r u none joins = (joins.0, under_more g r u joins.0 joins.1 (λ i p q. absurd (none i p q)))

above_done : (g : Grid) (r u : ℕ) → Joins g r u → Joins g r (u + 1)
above_done g r u joins =
    by_cases_of (nat_le g.columns u) _
    (λ e.
    let most : g.columns ≤ u = grind (arith, nat_tests) in
    let below : u ≡ (u - g.columns) + g.columns = omega arith in
    elim (value_or g (u - g.columns) u) as (λ _. Joins g r (u + 1)) [
      | inl one ↦ joined_above g (u - g.columns) r u below one joins
      | inr none ↦ apart_above g r u
          (λ i p q. (let same : i ≡ u - g.columns = omega (arith, p) in none (subst (λ (m : ℕ). HaveOneValue g m u) same q))) joins
    ])
    (λ e. apart_above g r u (λ i p q. (let low : u < g.columns = grind (arith, nat_tests) in omega (arith, p))) joins)

joins_of : (g : Grid) (n : ℕ) → Joins g n n
joins_of g zero = ([], joins_none g)
joins_of g (suc n) = subst (λ (m : ℕ). Joins g m m) (add-one n) (above_done g (n + 1) n (left_done g n n (joins_of g n)))

-- each pair is one of cells
pair_inside : (g : Grid) (i j : ℕ) → Leads g i j → (i < length g.cells) × (j < length g.cells)
pair_inside g i j leads =
    let inside = leads.1.inside in
    (elim leads.0 [ inl e ↦ omega (arith, e.0) | inr e ↦ omega (arith, e) ], inside)

-- some list has the leaders of all cells
leaders_of : (g : Grid) → (leaders : List ℕ) × AreLeaders g (λ i. slice_index leaders i)
leaders_of g =
    let joins = joins_of g (length g.cells) in
    let sets = some_sets (length g.cells) joins.0 (λ i j c. pair_inside g i j (joins.1.only i j c)) in
    (sets.0, sets_lead g joins.0 sets.0 joins.1 sets.2 sets.1)

-- ---- numbers

abbrev with_last : (ℕ → Option ℕ) → ℕ → Option ℕ → ℕ → Option ℕ
with_last old n x i = (if i == n then x else old i)

last_before : (old : ℕ → Option ℕ) (n : ℕ) (x : Option ℕ) (i : ℕ) → i < n → with_last old n x i ≡ old i
last_before old n x i low = let other : (i == n) ≡ false = grind (arith, nat_tests) in rw other refl

last_here : (old : ℕ → Option ℕ) (n : ℕ) (x : Option ℕ) → with_last old n x n ≡ x
last_here old n x = rw ((Decides-eqb n n).1 refl) refl

record Numbers (g : Grid) (n : ℕ) : Type 0 where
  pub number : ℕ → Option ℕ
  pub count : ℕ
  pub are : AreNumbered g n number count

number_done : (g : Grid) (leader : ℕ → ℕ) (n : ℕ) → AreLeaders g leader → n < length g.cells → Numbers g n → Numbers g (n + 1)
number_done g leader n leads inside so_far =
    let old = so_far.number in
    elim (same_or (value_at g n) g.nodata) as (λ _. Numbers g (n + 1)) [
      | inl none ↦ record {
        number = with_last old n None;
        count = so_far.count;
        are = numbered_none g n old (with_last old n None) so_far.count so_far.are (last_before old n None) (last_here old n None) none;
      }
      | inr some ↦ by_cases_of (leader n == n) _
          (λ e. record {
            number = with_last old n (Some so_far.count);
            count = so_far.count + 1;
            are = numbered_first g n old (with_last old n (Some so_far.count)) so_far.count leader leads inside so_far.are (last_before old n (Some so_far.count)) (last_here old n (Some so_far.count)) some ((Decides-eqb (leader n) n).0 e);
          })
          (λ e. record {
            number = with_last old n (old (leader n));
            count = so_far.count;
            are = numbered_further g n old (with_last old n (old (leader n))) so_far.count leader leads inside so_far.are (last_before old n (old (leader n))) (last_here old n (old (leader n))) some (λ s. false_true (sym e ∙ (Decides-eqb (leader n) n).1 s));
          })
    ]

numbers_to : (g : Grid) (leader : ℕ → ℕ) → AreLeaders g leader → (n : ℕ) → n ≤ length g.cells → Numbers g n
numbers_to g leader leads zero most = record { number = λ _. None; count = 0; are = numbered_start g (λ _. None) }
numbers_to g leader leads (suc n) most = subst (λ (m : ℕ). Numbers g m) (add-one n) (number_done g leader n leads (omega arith) (numbers_to g leader leads n (omega arith)))

-- the patches of a grid
pub record SomePatches (g : Grid) : Type 0 where
  pub number : ℕ → Option ℕ
  pub count : ℕ
  pub are : ArePatches g number count

-- each grid has patches
pub patches_of : (g : Grid) → SomePatches g
patches_of g =
    let leaders = leaders_of g in
    let all = numbers_to g (λ i. slice_index leaders.0 i) leaders.1 (length g.cells) (omega arith) in
    record { number = all.number; count = all.count; are = all.are }

-- ---- members

-- the cells of each patch
pub members_of : (number : ℕ → Option ℕ) (count n : ℕ) → ((i q : ℕ) → i < n → number i ≡ Some q → q < count) → (xs : List (List ℕ)) × AreMembers number n count xs
members_of number count zero below = (replicate count [], no_cells number count (replicate count []) refl)
members_of number count (suc n) below =
    let before = members_of number count n (λ i q low is. below i q (omega arith) is) in
    let after : AreMembers number (n + 1) count (put before.0 (number n) n) = cell_done number n count before.0 (put before.0 (number n) n) (number n) refl (λ q is. below n q (omega arith) is) refl before.1 in
    (put before.0 (number n) n, subst (λ (m : ℕ). AreMembers number m count (put before.0 (number n) n)) (add-one n) after)
