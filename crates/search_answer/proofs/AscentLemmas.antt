-- The leaves of a search are worth at least some ascent.
use Rattle.std.proofs.Common.{◌≡◌, ℕ, sym, subst, arith, inl, inr, Ok, Result}
use Rattle.std.specs.Prelude.{ℤ, ◌↔◌}
use Rattle.std.proofs.lemmas.Int.{ints}
use Rattle.agg_model.specs.Problem.{Problem}
use Rattle.row_laws.specs.Values.{RowSum, Allowed}
use Rattle.row_laws.specs.Exact.{answer}
use Rattle.row_laws.specs.Trees.{only, without}
use Rattle.row_laws.specs.declared.bound.Bound.{Bound}
use Rattle.row_laws.specs.declared.bound.Bound.TheVariants.{Least, Void}
use Rattle.row_laws.specs.declared.bound.Weak.{Weak}
use Rattle.row_laws.specs.declared.leaf.Leaf.{Leaf}
use Rattle.row_laws.specs.declared.leaf.Leaf.TheVariants.{Fixed}
use Rattle.row_laws.specs.declared.tree.Tree.{Tree, Leaf as LeafNode, Split'}
use Rattle.bound_rows.specs.Offers.{IsAtMost, IsWorth, FitsBetter}
use Rattle.branch_bound.specs.Trees.{IsKept, IsKeptLeaf}
use Rattle.primal_dual.specs.Offers.{IsWithin}
use Rattle.relax_bound.specs.Ascents.{IsAscent}
use Rattle.relax_bound.proofs.AscentLemmas.{ascent_law}
use Rattle.search_answer.specs.Offers.{FitsStatable}
use Rattle.search_answer.specs.Ascents.{IsAboveAscent, AreAboveAscents}

-- what the search is offered: the better of an ascent and another sum, where its multipliers have texts
abbrev pub Offered : Problem → ℕ → Allowed → RowSum → Type 0
Offered p share f s = FitsStatable p (FitsBetter p f share (λ r. IsAscent p f share r) (λ r. IsWithin p share r)) s

at_most_next : (a b c : Bound) → IsAtMost a b → IsAtMost b c → IsAtMost a c
at_most_next (Least x) (Least y) (Least z) h k = omega (arith, ints)
at_most_next (Least x) (Least y) Void h k = tt
at_most_next (Least x) Void (Least z) h k = absurd k
at_most_next (Least x) Void Void h k = tt
at_most_next Void (Least y) c h k = absurd h
at_most_next Void Void c h k = k

one_bound : (r : Result Bound Weak) (a b : Bound) → r ≡ Ok a → r ≡ Ok b → b ≡ a
one_bound r a b h k = cc

leaf_above : (p : Problem) (share : ℕ) (c : ℤ) (from leaf : Leaf) (f : Allowed) → IsKeptLeaf p share (Offered p share) c from leaf f → (leaf ≡ Fixed → ⊥) → IsAboveAscent p share leaf f
leaf_above p share c from leaf f kept apart =
    let made = kept.offered (λ single. apart (kept.single single)) in
    let fit = made.1.1 in
    let better = fit.1 in
    let b = better.0 in
    let same : made.0 ≡ fit.0 = elim fit.2 [ inl e ↦ e | inr bad ↦ absurd (bad better.1.sound) ] in
    let worth : IsWorth p f share made.0 b = subst (λ (s : RowSum). IsWorth p f share s b) (sym same) better.1 in
    elim better.2 [
      | inl m ↦ absurd (m.2 (ascent_law p f share m.0 m.1))
      | inr m ↦ (m.0, m.2, λ x y ex ey. subst (λ (t : Bound). IsAtMost t y) (sym (one_bound (answer p f m.0) m.1 x m.3.value ex)) (at_most_next m.1 b y m.4 (made.2.worth b y worth ey)))
    ]

pub tree_above : (p : Problem) (share : ℕ) (c : ℤ) (from : Leaf) (tree : Tree Leaf) (f : Allowed) → IsKept p share (Offered p share) c from tree f → AreAboveAscents p share tree f
tree_above p share c from (LeafNode leaf) f kept = leaf_above p share c from leaf f kept
tree_above p share c from (Split' v k x with y rest) f kept =
    (tree_above p share c kept.0.0 with (only f v k) kept.1, tree_above p share c kept.0.0 rest (without f v k) kept.2)

-- ---- what fits

fits_one : (p : Problem) (f g : RowSum → Type 0) → ((r : RowSum) → f r → g r) → (s : RowSum) → FitsStatable p f s → FitsStatable p g s
fits_one p f g same s h = (h.0, (h.1.0, same h.1.0 h.1.1, h.1.2))

pub fits_same : (p : Problem) (f g : RowSum → Type 0) → ((r : RowSum) → f r ↔ g r) → (s : RowSum) → FitsStatable p f s ↔ FitsStatable p g s
fits_same p f g same s = (fits_one p f g (λ r. (same r).0) s, fits_one p g f (λ r. (same r).1) s)
