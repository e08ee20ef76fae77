-- What the tree proves that has grown.
use Rattle.std.proofs.Common.{◌≡◌, ℕ, ◌+◌, ◌≤◌, true, refl, sym, ◌∙◌, ap, subst, arith, Ok, Some, Option}
use Rattle.std.specs.Prelude.{ℤ, ◌≤ℤ◌, ◌<ℤ◌, ◌*◌}
use Rattle.std.proofs.lemmas.Int.{ints}
use Rattle.std.proofs.lemmas.Bool.Decides.{nat_tests}
use Rattle.agg_base.specs.declared.limits.TheConstants.{DEPTH}
use Rattle.agg_model.specs.Problem.{Problem, Grouping, IsFeasible, cost}
use Rattle.row_laws.specs.Values.{Allowed, RowSum}
use Rattle.row_laws.specs.Bounds.{HoldsFor}
use Rattle.row_laws.specs.Leaves.{IsSoundLeaf, leaf_answer}
use Rattle.row_laws.specs.Trees.{only, without, lesser_bound, lesser_of, bound_in, IsSoundTree, bound_of, split_count, depth_of}
use Rattle.row_laws.specs.declared.bound.Bound.{Bound}
use Rattle.row_laws.specs.declared.bound.Bound.TheVariants.{Least, Void}
use Rattle.row_laws.specs.declared.leaf.Leaf.{Leaf}
use Rattle.row_laws.specs.declared.leaf.Leaf.TheVariants.{Sum, Fixed}
use Rattle.row_laws.specs.declared.tree.Tree.{Tree, Leaf as LeafNode, Split'}
use Rattle.bound_rows.specs.Offers.{IsAtMost}
use Rattle.branch_bound.specs.declared.tips.Rank.{Rank}
use Rattle.branch_bound.specs.Tips.{first_rank, is_closed}
use Rattle.branch_bound.specs.Shapes.{Shape, Tipped, Forked, rank_of, splits_in, IsTreeOf}
use Rattle.branch_bound.specs.Trees.{IsGrown, IsGoodTip, IsSpent, IsKept, IsOffered, IsDeep, node_count}
use Rattle.branch_bound.proofs.RankLemmas.{first_bound, first_closed, lesser_first, lesser_second, at_most_both, at_most_along}
use Rattle.branch_bound.proofs.GrownLemmas.{IsWorthTip}

-- what holds at one area and class holds at the same ones
at_pair : (P : ℕ → ℕ → Type 0) (v k u j : ℕ) → v ≡ u → k ≡ j → P v k → P u j
at_pair P v k u j e h is = subst (λ (x : ℕ). P x j) e (subst (λ (y : ℕ). P v y) h is)

same_leaf : (leaf other : Leaf) (p : Problem) (f : Allowed) (b : Bound) → leaf ≡ other → leaf_answer leaf p f ≡ Ok b → leaf_answer other p f ≡ Ok b
same_leaf leaf other p f b e is = subst (λ (l : Leaf). leaf_answer l p f ≡ Ok b) e is

pub tree_sound : (p : Problem) (spent : Leaf → Allowed → Leaf → Type 0) (x : Leaf) (s : Shape) (tree : Tree Leaf) (f : Allowed) (d : ℕ) → IsTreeOf s tree → IsGrown p (λ _ f d t. IsWorthTip p f t) spent x s f d → IsSoundTree IsSoundLeaf leaf_answer p tree f
tree_sound p spent x (Tipped t) (LeafNode leaf) f d e is =
    (subst (λ (l : Leaf). IsSoundLeaf l p f) e is.sound, (t.bound, same_leaf t.leaf leaf p f t.bound e is.worth))
tree_sound p spent x (Tipped t) (Split' u j q with' y rest') f d e is = absurd e
tree_sound p spent x (Forked v k r with rest) (LeafNode leaf) f d e is = absurd e
tree_sound p spent x (Forked v k r with rest) (Split' u j q with' y rest') f d e is =
    at_pair (λ a b. IsSoundTree IsSoundLeaf leaf_answer p (Split' a b q with' y rest') f) v k u j e.0 e.1 (
      is.0.0,
      is.0.1,
      is.0.2,
      tree_sound p spent is.2.0 with with' (only f v k) (d + 1) e.2 is.3,
      tree_sound p spent is.2.0 rest rest' (without f v k) (d + 1) e.3 is.4,
    )

lesser_there : (x y : Option Bound) (c d : Bound) → x ≡ Some c → y ≡ Some d → lesser_of x y ≡ Some (lesser_bound c d)
lesser_there x y c d h k = rw (h, k) refl

pub tree_bound : (p : Problem) (spent : Leaf → Allowed → Leaf → Type 0) (x : Leaf) (s : Shape) (tree : Tree Leaf) (f : Allowed) (d : ℕ) → IsTreeOf s tree → IsGrown p (λ _ f d t. IsWorthTip p f t) spent x s f d → bound_of leaf_answer p tree f ≡ Some (rank_of s).bound
tree_bound p spent x (Tipped t) (LeafNode leaf) f d e is = ap bound_in (same_leaf t.leaf leaf p f t.bound e is.worth)
tree_bound p spent x (Tipped t) (Split' u j q with' y rest') f d e is = absurd e
tree_bound p spent x (Forked v k r with rest) (LeafNode leaf) f d e is = absurd e
tree_bound p spent x (Forked v k r with rest) (Split' u j q with' y rest') f d e is =
    let a = (rank_of with).bound in
    let b = (rank_of rest).bound in
    let bound : r.bound ≡ lesser_bound a b = ap (λ (x : Rank). x.bound) is.1 ∙ first_bound a b (rank_of with).is_closed (rank_of rest).is_closed in
    at_pair (λ m n. bound_of leaf_answer p (Split' m n q with' y rest') f ≡ Some r.bound) v k u j e.0 e.1
    (lesser_there (bound_of leaf_answer p with' (only f v k)) (bound_of leaf_answer p rest' (without f v k)) a b (tree_bound p spent is.2.0 with with' (only f v k) (d + 1) e.2 is.3) (tree_bound p spent is.2.0 rest rest' (without f v k) (d + 1) e.3 is.4) ∙ ap Some (sym bound))

pub tree_splits : (s : Shape) (tree : Tree Leaf) → IsTreeOf s tree → split_count tree ≡ splits_in s
tree_splits (Tipped t) (LeafNode leaf) e = refl
tree_splits (Tipped t) (Split' u j x with' y rest') e = absurd e
tree_splits (Forked v k r with rest) (LeafNode leaf) e = absurd e
tree_splits (Forked v k r with rest) (Split' u j x with' y rest') e =
    let a = tree_splits with with' e.2 in
    let b = tree_splits rest rest' e.3 in
    omega arith

pub tree_nodes : (tree : Tree Leaf) → node_count tree ≡ 2 * split_count tree + 1
tree_nodes (LeafNode leaf) = refl
tree_nodes (Split' u j x with y rest) =
    let a = tree_nodes with in
    let b = tree_nodes rest in
    omega arith

pub tree_shallow : (p : Problem) (share : ℕ) (fits : Allowed → RowSum → Type 0) (spent : Leaf → Allowed → Leaf → Type 0) (c : ℤ) (x : Leaf) (s : Shape) (tree : Tree Leaf) (f : Allowed) (d : ℕ) → IsTreeOf s tree → IsGrown p (IsGoodTip p share fits c) spent x s f d → depth_of tree + d ≤ DEPTH
tree_shallow p share fits spent c x (Tipped t) (LeafNode leaf) f d e is =
    let shallow = is.0.shallow in
    omega arith
tree_shallow p share fits spent c x (Tipped t) (Split' u j q with' y rest') f d e is = absurd e
tree_shallow p share fits spent c x (Forked v k r with rest) (LeafNode leaf) f d e is = absurd e
tree_shallow p share fits spent c x (Forked v k r with rest) (Split' u j q with' y rest') f d e is =
    let a = tree_shallow p share fits spent c is.2.0 with with' (only f v k) (d + 1) e.2 is.3 in
    let b = tree_shallow p share fits spent c is.2.0 rest rest' (without f v k) (d + 1) e.3 is.4 in
    omega arith

-- ---- leaves and splits rest on offers

same_ok : (leaf : Leaf) (p : Problem) (f : Allowed) (a b : Bound) → leaf_answer leaf p f ≡ Ok a → leaf_answer leaf p f ≡ Ok b → a ≡ b
same_ok leaf p f a b h k =
    let both : Ok a ≡ Ok b = sym h ∙ k in
    cc

holds_at_most : (p : Problem) (g : Grouping) (c : ℤ) (b : Bound) → c ≡ cost p g → HoldsFor b p g → IsAtMost b (Least c)
holds_at_most p g c (Least x) e h = omega (arith, ints)
holds_at_most p g c Void e h = absurd h

pub tree_kept : (p : Problem) (share : ℕ) (fits : Allowed → RowSum → Type 0) (c : ℤ) (g : Grouping) → IsFeasible p g → c ≡ cost p g → (x : Leaf) (s : Shape) (tree : Tree Leaf) (f : Allowed) (d : ℕ) → IsTreeOf s tree → IsGrown p (IsGoodTip p share fits c) (IsSpent p share fits) x s f d → IsKept p share fits c x tree f
tree_kept p share fits c g good costs x (Tipped t) (LeafNode leaf) f d e is =
    record {
      single = λ one. sym e ∙ is.0.single one;
      offered = λ several.
          let from = is.0.offered several in
          subst (λ (l : Leaf). IsOffered p share fits x f l) e from;
      dear = λ b fixed worth.
          let same : t.bound ≡ b = same_ok leaf p f t.bound b (same_leaf t.leaf leaf p f t.bound e is.0.worth) worth in
          subst (λ (z : Bound). IsAtMost (Least c) z) same (is.1 (e ∙ fixed));
    }
tree_kept p share fits c g good costs x (Tipped t) (Split' u j q with' y rest') f d e is = absurd e
tree_kept p share fits c g good costs x (Forked v k r with rest) (LeafNode leaf) f d e is = absurd e
tree_kept p share fits c g good costs x (Forked v k r with rest) (Split' u j q with' y rest') f d e is =
    let was = is.2.1 in
    at_pair (λ a b. IsKept p share fits c x (Split' a b q with' y rest') f) v k u j e.0 e.1 (
      (is.2.0, (was.0, was.1, was.2, λ b worth. holds_at_most p g c b costs (was.3 b worth g good))),
      tree_kept p share fits c g good costs is.2.0 with with' (only f v k) (d + 1) e.2 is.3,
      tree_kept p share fits c g good costs is.2.0 rest rest' (without f v k) (d + 1) e.3 is.4,
    )

-- ---- leaves at the greatest depth

closed_leaf : (leaf : Leaf) (d : ℕ) → is_closed leaf d ≡ true → (leaf ≡ Fixed → ⊥) → DEPTH ≤ d
closed_leaf Fixed d h not_fixed = absurd (not_fixed refl)
closed_leaf (Sum s) d h not_fixed = grind (arith, nat_tests)

too_dear : (c x : ℤ) (b : Bound) → x <ℤ c → b ≡ Least x → IsAtMost (Least c) b → ⊥
too_dear c x (Least y) less e h = at y e h
  where
    at : (y : ℤ) → Least y ≡ Least x → c ≤ℤ y → ⊥
    at y e h =
        let same : y ≡ x = cc in
        omega (arith, ints)
too_dear c x Void less e h = cc

-- where each rank of that bound is closed, each leaf of that value stands at the greatest depth
pub tree_deep : (p : Problem) (share : ℕ) (fits : Allowed → RowSum → Type 0) (spent : Leaf → Allowed → Leaf → Type 0) (c x : ℤ) → x <ℤ c → (l : Leaf) (s : Shape) (tree : Tree Leaf) (f : Allowed) (d : ℕ) → IsTreeOf s tree → IsGrown p (IsGoodTip p share fits c) spent l s f d
    → IsAtMost (Least x) (rank_of s).bound → ((rank_of s).bound ≡ Least x → (rank_of s).is_closed ≡ true) → IsDeep p (Least x) tree f d
tree_deep p share fits spent c x less l (Tipped t) (LeafNode leaf) f d e is most closed = λ value.
    let same : t.bound ≡ Least x = same_ok leaf p f t.bound (Least x) (same_leaf t.leaf leaf p f t.bound e is.0.worth) value in
    let deep : DEPTH ≤ t.depth = closed_leaf t.leaf t.depth (closed same) (λ fixed. too_dear c x t.bound less same (is.1 fixed)) in
    let here = is.0.depth in
    let shallow = is.0.shallow in
    omega arith
tree_deep p share fits spent c x less l (Tipped t) (Split' u j q with' y rest') f d e is most closed = absurd e
tree_deep p share fits spent c x less l (Forked v k r with rest) (LeafNode leaf) f d e is most closed = absurd e
tree_deep p share fits spent c x less l (Forked v k r with rest) (Split' u j q with' y rest') f d e is most closed =
    let a = rank_of with in
    let b = rank_of rest in
    let bound : r.bound ≡ lesser_bound a.bound b.bound = ap (λ (x : Rank). x.bound) is.1 ∙ first_bound a.bound b.bound a.is_closed b.is_closed in
    let low : IsAtMost (Least x) (lesser_bound a.bound b.bound) = subst (λ (z : Bound). IsAtMost (Least x) z) bound most in
    let left = lesser_first a.bound b.bound in
    let right = lesser_second a.bound b.bound in
    let shut : r.bound ≡ Least x → (first_rank a b).is_closed ≡ true = λ h. sym (ap (λ (x : Rank). x.is_closed) is.1) ∙ closed h in
    at_pair (λ m n. IsDeep p (Least x) (Split' m n q with' y rest') f d) v k u j e.0 e.1 (
      tree_deep p share fits spent c x less is.2.0 with with' (only f v k) (d + 1) e.2 is.3 (at_most_along (Least x) (lesser_bound a.bound b.bound) a.bound low left) (λ h.
          let met : lesser_bound a.bound b.bound ≡ Least x = at_most_both (lesser_bound a.bound b.bound) (Least x) (subst (λ (z : Bound). IsAtMost (lesser_bound a.bound b.bound) z) h left) low in
          (first_closed a.bound b.bound a.is_closed b.is_closed (shut (bound ∙ met))).0 (h ∙ sym (first_bound a.bound b.bound a.is_closed b.is_closed ∙ met))),
      tree_deep p share fits spent c x less is.2.0 rest rest' (without f v k) (d + 1) e.3 is.4 (at_most_along (Least x) (lesser_bound a.bound b.bound) b.bound low right) (λ h.
          let met : lesser_bound a.bound b.bound ≡ Least x = at_most_both (lesser_bound a.bound b.bound) (Least x) (subst (λ (z : Bound). IsAtMost (lesser_bound a.bound b.bound) z) h right) low in
          (first_closed a.bound b.bound a.is_closed b.is_closed (shut (bound ∙ met))).1 (h ∙ sym (first_bound a.bound b.bound a.is_closed b.is_closed ∙ met))),
    )
