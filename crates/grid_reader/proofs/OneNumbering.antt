-- The patches of a grid have one numbering.
use Rattle.std.proofs.Common.{◌≡◌, ℕ, zero, suc, ◌<◌, ◌≤◌, nat_lt, ap, sym, ◌∙◌, refl, arith, List, length, Option, Some, None}
use Rattle.std.proofs.lemmas.Bool.Decides.{nat_tests}
use Rattle.agg_base.specs.declared.limits.TheConstants.{AREAS}
use Rattle.plane_edge.specs.Rings.{Area}
use Rattle.grid_reader.specs.Grid.{Grid}
use Rattle.grid_reader.specs.Walks.{InOnePatch}
use Rattle.grid_reader.specs.Patches.{AreNumbered}
use Rattle.grid_reader.specs.Areas.{AreAreas, HasManyPatches}
use Rattle.json_text.proofs.Cases.{by_cases_of}
use Rattle.grid_reader.proofs.PatchLemmas.{split_last}

-- two numberings agree before cell i
abbrev Agree : ℕ → (ℕ → Option ℕ) → (ℕ → Option ℕ) → Type 0
Agree i a b = (j : ℕ) → j < i → a j ≡ b j

not_less : (g : Grid) (n i p q m k : ℕ) (a b : ℕ → Option ℕ) → AreNumbered g n a m → AreNumbered g n b k → Agree i a b → i < n → a i ≡ Some p → b i ≡ Some q → p < q → ⊥
not_less g n i p q m k a b x y before inside is also less =
    let w = y.in_order i q p inside also less in
    let within : w.0 < n = (let low = w.1 in omega arith) in
    let there : a w.0 ≡ Some p = before w.0 w.1 ∙ w.2 in
    let way : InOnePatch g i w.0 = (x.one_patch i w.0 p p inside within is there).0 refl in
    let same : q ≡ p = (y.one_patch i w.0 q p inside within also w.2).1 way in
    omega arith

none_some : (g : Grid) (n i q m k : ℕ) (a b : ℕ → Option ℕ) → AreNumbered g n a m → AreNumbered g n b k → i < n → a i ≡ None → b i ≡ Some q → ⊥
none_some g n i q m k a b x y inside is also =
    let none : b i ≡ None = (y.no_data i inside).1 ((x.no_data i inside).0 is) in
    cc

agree_back : (i : ℕ) (a b : ℕ → Option ℕ) → Agree i a b → Agree i b a
agree_back i a b before j low = sym (before j low)

-- two numbers of which neither is less are one
pub same_number : (p q : ℕ) → (p < q → ⊥) → (q < p → ⊥) → p ≡ q
same_number p q f h = by_cases_of (nat_lt p q) _
    (λ e. absurd (f (grind (arith, nat_tests))))
    (λ e. by_cases_of (nat_lt q p) _ (λ k. absurd (h (grind (arith, nat_tests)))) (λ k. grind (arith, nat_tests)))

same_here : (g : Grid) (n i m k : ℕ) (a b : ℕ → Option ℕ) (o r : Option ℕ) → AreNumbered g n a m → AreNumbered g n b k → Agree i a b → i < n → a i ≡ o → b i ≡ r → o ≡ r
same_here g n i m k a b None None x y before inside is also = refl
same_here g n i m k a b None (Some q) x y before inside is also = absurd (none_some g n i q m k a b x y inside is also)
same_here g n i m k a b (Some p) None x y before inside is also = absurd (none_some g n i p k m b a y x inside also is)
same_here g n i m k a b (Some p) (Some q) x y before inside is also =
    ap Some (same_number p q (not_less g n i p q m k a b x y before inside is also) (not_less g n i q p k m b a y x (agree_back i a b before) inside also is))

agree_below : (g : Grid) (n m k : ℕ) (a b : ℕ → Option ℕ) → AreNumbered g n a m → AreNumbered g n b k → (top : ℕ) → top ≤ n → Agree top a b
agree_below g n m k a b x y zero most j low = absurd (omega arith)
agree_below g n m k a b x y (suc top) most j low =
    let before : Agree top a b = agree_below g n m k a b x y top (omega arith) in
    split_last top j (a j ≡ b j) (omega arith) (before j)
    (λ (e : j ≡ top). ap a e ∙ same_here g n top m k a b (a top) (b top) x y before (omega arith) refl refl ∙ ap b (sym e))

-- cells have one number
pub one_number : (g : Grid) (n m k : ℕ) (a b : ℕ → Option ℕ) → AreNumbered g n a m → AreNumbered g n b k → Agree n a b
one_number g n m k a b x y = agree_below g n m k a b x y n (omega arith)

not_fewer : (g : Grid) (n m k : ℕ) (a b : ℕ → Option ℕ) → AreNumbered g n a m → AreNumbered g n b k → m < k → ⊥
not_fewer g n m k a b x y less =
    let w = y.all m less in
    let low : m < m = x.below w.0 m w.1 (one_number g n m k a b x y w.0 w.1 ∙ w.2) in
    omega arith

-- there is one number of patches
pub one_count : (g : Grid) (n m k : ℕ) (a b : ℕ → Option ℕ) → AreNumbered g n a m → AreNumbered g n b k → m ≡ k
one_count g n m k a b x y = same_number m k (not_fewer g n m k a b x y) (not_fewer g n k m b a y x)

-- a grid with areas has few patches
pub areas_few : (g : Grid) (areas : List Area) → AreAreas g areas → length areas ≤ AREAS → ¬ (HasManyPatches g)
areas_few g areas is few many =
    let same : many.count ≡ length areas = one_count g (length g.cells) many.count (length areas) many.number is.number many.patches is.patches in
    let more = many.many in
    omega arith
