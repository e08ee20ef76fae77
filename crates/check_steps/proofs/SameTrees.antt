-- What the judge says of a tree, it says of the same tree again.
use Rattle.std.proofs.Common.{◌≡◌, ℕ, ◌<◌, ◌+◌, ◌*◌, inl, inr, true, refl, sym, ◌∙◌, ap, subst, Option, Some, Ok}
use Rattle.agg_model.specs.Problem.{Problem, areas}
use Rattle.row_laws.specs.declared.bound.Bound.{Bound}
use Rattle.row_laws.specs.declared.leaf.Leaf.{Leaf}
use Rattle.row_laws.specs.declared.tree.Tree.{Tree, Leaf as LeafNode, Split'}
use Rattle.row_laws.specs.Values.{Allowed}
use Rattle.row_laws.specs.Leaves.{IsSoundLeaf, leaf_answer}
use Rattle.row_laws.specs.Trees.{only, without, lesser_of, bound_in, bound_of, HasOther, IsSameTree, split_count}
use Rattle.tree_check.specs.declared.fault.TreeFault.{TreeFault}
use Rattle.tree_check.specs.First.{Then}
use Rattle.tree_check.specs.Nodes.{IsSound, IsGoodSplit, IsSplitFault, IsFaultOfLeaf, IsNodeFault, IsSoundAtRoot, IsBoundOf, IsTreeFault, node_count, root_domains}

same_splits : (t u : Tree Leaf) → IsSameTree t u → split_count t ≡ split_count u
same_splits (LeafNode l) (LeafNode m) e = refl
same_splits (LeafNode l) (Split' u j _ y _ n) e = absurd e
same_splits (Split' v k _ y _ n) (LeafNode m) e = absurd e
same_splits (Split' v k _ y _ n) (Split' u j _ y' _ n') e =
    ap (λ x. x + split_count n + 1) (same_splits y y' e.2) ∙ ap (λ x. split_count y' + x + 1) (same_splits n n' e.3)

pub same_sound : (p : Problem) (t u : Tree Leaf) (allowed : Allowed) → IsSameTree t u → IsSound p t allowed → IsSound p u allowed
same_sound p (LeafNode l) (LeafNode m) allowed e h = subst (λ x. IsSoundLeaf x p allowed × ((b : Bound) × (leaf_answer x p allowed ≡ Ok b))) e h
same_sound p (LeafNode l) (Split' u j _ y _ n) allowed e h = absurd e
same_sound p (Split' v k _ y _ n) (LeafNode m) allowed e h = absurd e
same_sound p (Split' v k _ y _ n) (Split' u j _ y' _ n') allowed e h =
    subst (λ x. (x < areas p) × (allowed x j ≡ true) × HasOther p allowed x j × IsSound p y' (only allowed x j) × IsSound p n' (without allowed x j)) e.0
    (subst (λ i. (v < areas p) × (allowed v i ≡ true) × HasOther p allowed v i × IsSound p y' (only allowed v i) × IsSound p n' (without allowed v i)) e.1
    (h.0, h.1, h.2, same_sound p y y' (only allowed v k) e.2 h.3, same_sound p n n' (without allowed v k) e.3 h.4))

same_bound_of : (p : Problem) (t u : Tree Leaf) (allowed : Allowed) → IsSameTree t u → bound_of leaf_answer p t allowed ≡ bound_of leaf_answer p u allowed
same_bound_of p (LeafNode l) (LeafNode m) allowed e = ap (λ x. bound_in (leaf_answer x p allowed)) e
same_bound_of p (LeafNode l) (Split' u j _ y _ n) allowed e = absurd e
same_bound_of p (Split' v k _ y _ n) (LeafNode m) allowed e = absurd e
same_bound_of p (Split' v k _ y _ n) (Split' u j _ y' _ n') allowed e =
    ap (λ o. lesser_of o (bound_of leaf_answer p n (without allowed v k))) (same_bound_of p y y' (only allowed v k) e.2)
    ∙ ap (λ o. lesser_of (bound_of leaf_answer p y' (only allowed v k)) o) (same_bound_of p n n' (without allowed v k) e.3)
    ∙ ap (λ i. lesser_of (bound_of leaf_answer p y' (only allowed v i)) (bound_of leaf_answer p n' (without allowed v i))) e.1
    ∙ ap (λ x. lesser_of (bound_of leaf_answer p y' (only allowed x j)) (bound_of leaf_answer p n' (without allowed x j))) e.0

-- the faults of a split and its children, by the area and the class
abbrev SplitFaults : Problem → Allowed → ℕ → Tree Leaf → Tree Leaf → TreeFault → ℕ → ℕ → Type 0
SplitFaults p allowed node y n fault v k =
    Then (IsGoodSplit p allowed v k) (IsSplitFault p allowed v k node) (Then (IsSound p y (only allowed v k)) (IsNodeFault p y (only allowed v k) (node + 1)) (IsNodeFault p n (without allowed v k) (node + 1 + node_count y))) fault

pub same_fault : (p : Problem) (t u : Tree Leaf) (allowed : Allowed) (node : ℕ) (fault : TreeFault) → IsSameTree t u → IsNodeFault p t allowed node fault → IsNodeFault p u allowed node fault
same_fault p (LeafNode l) (LeafNode m) allowed node fault e h = subst (λ x. IsFaultOfLeaf p x allowed node fault) e h
same_fault p (LeafNode l) (Split' u j _ y _ n) allowed node fault e h = absurd e
same_fault p (Split' v k _ y _ n) (LeafNode m) allowed node fault e h = absurd e
same_fault p (Split' v k _ y _ n) (Split' u j _ y' _ n') allowed node fault e h =
    let here : SplitFaults p allowed node y' n' fault v k =
    elim h [
      | inl split ↦ inl split
      | inr good ↦ inr (
        good.0,
        elim good.1 [
          | inl first ↦ inl (same_fault p y y' (only allowed v k) (node + 1) fault e.2 first)
          | inr second ↦ inr (
            same_sound p y y' (only allowed v k) e.2 second.0,
            subst (λ x. IsNodeFault p n' (without allowed v k) (node + 1 + (2 * x + 1)) fault) (same_splits y y' e.2)
                (same_fault p n n' (without allowed v k) (node + 1 + node_count y) fault e.3 second.1),
          )
        ],
      )
    ]
    in
    subst (λ x. SplitFaults p allowed node y' n' fault x j) e.0 (subst (λ i. SplitFaults p allowed node y' n' fault v i) e.1 here)

-- ---- over the domains of the root

pub same_sound_at_root : (p : Problem) (t u : Tree Leaf) → IsSameTree t u → IsSoundAtRoot p t → IsSoundAtRoot p u
same_sound_at_root p t u e h = same_sound p t u (root_domains p) e h

pub same_root_bound : (p : Problem) (t u : Tree Leaf) (b : Bound) → IsSameTree t u → IsBoundOf p t b → IsBoundOf p u b
same_root_bound p t u b e h = sym (same_bound_of p t u (root_domains p) e) ∙ h

pub same_root_fault : (p : Problem) (t u : Tree Leaf) (fault : TreeFault) → IsSameTree t u → IsTreeFault p t fault → IsTreeFault p u fault
same_root_fault p t u fault e h = same_fault p t u (root_domains p) 0 fault e h
