-- The faults of the nodes of a tree: each comes only where the tree is not sound, and there is one at most.
use Rattle.std.proofs.Common.{◌≡◌, ℕ, ◌<◌, ◌+◌, inl, inr, refl, sym, ◌∙◌, ap, subst, arith, List, length, Result, Ok, Err}
use Rattle.std.specs.Prelude.{ℤ, pos, ◌≤ℤ◌, ◌<ℤ◌}
use Rattle.std.proofs.lemmas.Int.{ints}
use Rattle.std.proofs.lemmas.Bool.{cases_order}
use Rattle.agg_model.specs.Problem.{Problem, areas}
use Rattle.row_laws.specs.declared.bound.Bound.{Bound}
use Rattle.row_laws.specs.declared.bound.Unsound.{Unsound}
use Rattle.row_laws.specs.declared.bound.Unsound.TheVariants.{Denominator, Row as RowFault, Negative, NotFixed}
use Rattle.row_laws.specs.declared.bound.Weak.{Weak}
use Rattle.row_laws.specs.declared.bound.Weak.TheVariants.{Wide, NotVoid}
use Rattle.row_laws.specs.declared.leaf.Leaf.{Leaf}
use Rattle.row_laws.specs.declared.leaf.Leaf.TheVariants.{Sum, Fixed}
use Rattle.row_laws.specs.declared.row.Row.{Row}
use Rattle.row_laws.specs.declared.tree.Tree.{Tree, Leaf as LeafNode, Split'}
use Rattle.row_laws.specs.Rows.{IsInForm}
use Rattle.row_laws.specs.Values.{RowSum, Allowed, HasDenominator, IsGoodRow, AreGoodRows, IsSoundSum, IsRowFault, IsSumFault, row_in}
use Rattle.row_laws.specs.Fixed.{IsSingle, AreSingle, IsFixedFault}
use Rattle.row_laws.specs.Leaves.{IsSoundLeaf, IsLeafFault, leaf_answer}
use Rattle.row_laws.specs.Trees.{only, without}
use Rattle.tree_check.specs.declared.fault.TreeFault.{TreeFault}
use Rattle.tree_check.specs.declared.fault.TreeFault.TheVariants.{Memory, Split}
use Rattle.tree_check.specs.First.{Then}
use Rattle.tree_check.specs.Nodes.{IsSound, IsUnsoundFault, IsWeakFault, IsFaultOfLeaf, IsGoodSplit, IsSplitFault, IsNodeFault, fault_of_unsound, fault_of_weak, node_count, root_domains}
use Rattle.tree_check.specs.Laws.{OneTreeFaultLaw}
use Rattle.tree_check.proofs.StageLemmas.{IsStage, stage_then, stage_where, stage_of}

-- ---- rows

-- a row that is not good, behind good ones
IsBadRow : Problem → List (Row × ℤ) → ℕ → Type 0
IsBadRow p rows i = (i < length rows) × AreGoodRows p rows i × (¬ IsGoodRow p (row_in rows i))

one_bad_row : (p : Problem) (rows : List (Row × ℤ)) (i j : ℕ) → IsBadRow p rows i → IsBadRow p rows j → i ≡ j
unfolding IsBadRow
one_bad_row p rows i j a b =
    elim (cases_order i j) [
      | inl e ↦ e
      | inr o ↦
          elim o [
            | inl h ↦ absurd (a.2 (b.1 i h))
            | inr h ↦ absurd (b.2 (a.1 j h))
          ]
    ]

bad_form : (p : Problem) (rows : List (Row × ℤ)) (i : ℕ) → IsRowFault p rows (RowFault i) → IsBadRow p rows i
unfolding IsBadRow
bad_form p rows i f = (f.0, f.1, λ good. f.2 good.0)

bad_sign : (p : Problem) (rows : List (Row × ℤ)) (i : ℕ) → IsRowFault p rows (Negative i) → IsBadRow p rows i
unfolding IsBadRow
bad_sign p rows i f = (f.0, f.1, λ good. below_zero (row_in rows i).1 good.1 f.3)
  where
    below_zero : (m : ℤ) → pos 0 ≤ℤ m → m <ℤ pos 0 → ⊥
    below_zero m h k = omega (arith, ints)

-- the same row is out of form or in form
no_form : (p : Problem) (rows : List (Row × ℤ)) (i j : ℕ) → i ≡ j → IsRowFault p rows (RowFault i) → IsRowFault p rows (Negative j) → ⊥
no_form p rows i j e f g = f.2 (subst (λ (n : ℕ). IsInForm p (row_in rows n).0) (sym e) g.2)

one_sum_fault : (p : Problem) (s : RowSum) (f g : Unsound) → IsSumFault p s f → IsSumFault p s g → f ≡ g
one_sum_fault p s Denominator Denominator a b = refl
one_sum_fault p s Denominator (RowFault j) a b = absurd (a b.0)
one_sum_fault p s Denominator (Negative j) a b = absurd (a b.0)
one_sum_fault p s Denominator (NotFixed v) a b = absurd b
one_sum_fault p s (RowFault i) Denominator a b = absurd (b a.0)
one_sum_fault p s (RowFault i) (RowFault j) a b =
    ap (λ (n : ℕ). RowFault n) (one_bad_row p s.rows i j (bad_form p s.rows i a.1) (bad_form p s.rows j b.1))
one_sum_fault p s (RowFault i) (Negative j) a b =
    absurd (no_form p s.rows i j (one_bad_row p s.rows i j (bad_form p s.rows i a.1) (bad_sign p s.rows j b.1)) a.1 b.1)
one_sum_fault p s (RowFault i) (NotFixed v) a b = absurd b
one_sum_fault p s (Negative i) Denominator a b = absurd (b a.0)
one_sum_fault p s (Negative i) (RowFault j) a b =
    absurd (no_form p s.rows j i (one_bad_row p s.rows j i (bad_form p s.rows j b.1) (bad_sign p s.rows i a.1)) b.1 a.1)
one_sum_fault p s (Negative i) (Negative j) a b =
    ap (λ (n : ℕ). Negative n) (one_bad_row p s.rows i j (bad_sign p s.rows i a.1) (bad_sign p s.rows j b.1))
one_sum_fault p s (Negative i) (NotFixed v) a b = absurd b
one_sum_fault p s (NotFixed v) g a b = absurd a

no_bad_row : (p : Problem) (rows : List (Row × ℤ)) (i : ℕ) → IsBadRow p rows i → ¬ IsGoodRow p (row_in rows i)
unfolding IsBadRow
no_bad_row p rows i bad good = bad.2 good

no_sum_fault : (p : Problem) (s : RowSum) (f : Unsound) → IsSoundSum p s → ¬ IsSumFault p s f
no_sum_fault p s Denominator h a = a h.denominator
no_sum_fault p s (RowFault i) h a = a.1.2 (h.rows i a.1.0).0
no_sum_fault p s (Negative i) h a =
    no_bad_row p s.rows i (bad_sign p s.rows i a.1) (h.rows i a.1.0)
no_sum_fault p s (NotFixed v) h a = a

-- ---- single classes

one_fixed_fault : (p : Problem) (allowed : Allowed) (f g : Unsound) → IsFixedFault p allowed f → IsFixedFault p allowed g → f ≡ g
one_fixed_fault p allowed Denominator g a b = absurd a
one_fixed_fault p allowed (RowFault i) g a b = absurd a
one_fixed_fault p allowed (Negative i) g a b = absurd a
one_fixed_fault p allowed (NotFixed v) Denominator a b = absurd b
one_fixed_fault p allowed (NotFixed v) (RowFault i) a b = absurd b
one_fixed_fault p allowed (NotFixed v) (Negative i) a b = absurd b
one_fixed_fault p allowed (NotFixed v) (NotFixed w) a b =
    elim (cases_order v w) [
      | inl e ↦ ap (λ (n : ℕ). NotFixed n) e
      | inr o ↦
          elim o [
            | inl h ↦ absurd (a.2 (b.1 v h))
            | inr h ↦ absurd (b.2 (a.1 w h))
          ]
    ]

no_fixed_fault : (p : Problem) (allowed : Allowed) (f : Unsound) → AreSingle p allowed (areas p) → ¬ IsFixedFault p allowed f
no_fixed_fault p allowed Denominator h a = a
no_fixed_fault p allowed (RowFault i) h a = a
no_fixed_fault p allowed (Negative i) h a = a
no_fixed_fault p allowed (NotFixed v) h a = a.2 (h v a.0)

-- ---- leaves

one_leaf_fault : (leaf : Leaf) (p : Problem) (allowed : Allowed) (f g : Unsound) → IsLeafFault leaf p allowed f → IsLeafFault leaf p allowed g → f ≡ g
one_leaf_fault (Sum s) p allowed f g a b = one_sum_fault p s f g a b
one_leaf_fault Fixed p allowed f g a b = one_fixed_fault p allowed f g a b

no_leaf_fault : (leaf : Leaf) (p : Problem) (allowed : Allowed) (f : Unsound) → IsSoundLeaf leaf p allowed → ¬ IsLeafFault leaf p allowed f
no_leaf_fault (Sum s) p allowed f h a = no_sum_fault p s f h a
no_leaf_fault Fixed p allowed f h a = no_fixed_fault p allowed f h a

unsound_apart : (node : ℕ) (f : Unsound) → Memory ≡ fault_of_unsound node f → ⊥
unsound_apart node Denominator e = cc
unsound_apart node (RowFault i) e = cc
unsound_apart node (Negative i) e = cc
unsound_apart node (NotFixed v) e = cc

weak_apart : (node : ℕ) (w : Weak) → Memory ≡ fault_of_weak node w → ⊥
weak_apart node (Wide entry) e = cc
weak_apart node (NotVoid total) e = cc

unsound_stage : (p : Problem) (leaf : Leaf) (allowed : Allowed) (node : ℕ) → IsStage Memory (IsSoundLeaf leaf p allowed) (IsUnsoundFault p leaf allowed node)
unsound_stage p leaf allowed node = record {
  never = λ h v f. no_leaf_fault leaf p allowed f.0 h f.2;
  once = λ v w f g. f.1 ∙ (ap (fault_of_unsound node) (one_leaf_fault leaf p allowed f.0 g.0 f.2 g.2) ∙ sym g.1);
  real = λ f. unsound_apart node f.0 f.1;
}

same_weak : (r : Result Bound Weak) (a b : Weak) → r ≡ Err a → r ≡ Err b → a ≡ b
same_weak r a b h k =
    let both : Err a ≡ Err b = sym h ∙ k in
    cc

not_both : (r : Result Bound Weak) (b : Bound) (w : Weak) → r ≡ Ok b → r ≡ Err w → ⊥
not_both r b w h k =
    let both : Ok b ≡ Err w = sym h ∙ k in
    cc

abbrev HasValue : Problem → Leaf → Allowed → Type 0
HasValue p leaf allowed = (b : Bound) × (leaf_answer leaf p allowed ≡ Ok b)

weak_stage : (p : Problem) (leaf : Leaf) (allowed : Allowed) (node : ℕ) → IsStage Memory (HasValue p leaf allowed) (IsWeakFault p leaf allowed node)
weak_stage p leaf allowed node = record {
  never = λ h v f. not_both (leaf_answer leaf p allowed) h.0 f.0 h.1 f.2;
  once = λ v w f g. f.1 ∙ (ap (fault_of_weak node) (same_weak (leaf_answer leaf p allowed) f.0 g.0 f.2 g.2) ∙ sym g.1);
  real = λ f. weak_apart node f.0 f.1;
}

-- ---- trees

pub tree_stage : (p : Problem) (tree : Tree Leaf) (allowed : Allowed) (node : ℕ) → IsStage Memory (IsSound p tree allowed) (IsNodeFault p tree allowed node)
tree_stage p (LeafNode leaf) allowed node =
    stage_then Memory (IsSoundLeaf leaf p allowed) (IsUnsoundFault p leaf allowed node) (HasValue p leaf allowed) (IsWeakFault p leaf allowed node) (unsound_stage p leaf allowed node) (weak_stage p leaf allowed node)
tree_stage p (Split' v k x with y rest) allowed node =
    let good = IsGoodSplit p allowed v k in
    let first = IsSound p with (only allowed v k) in
    let second = IsSound p rest (without allowed v k) in
    let first_flaw = IsNodeFault p with (only allowed v k) (node + 1) in
    let second_flaw = IsNodeFault p rest (without allowed v k) (node + 1 + node_count with) in
    let children = stage_then Memory first first_flaw second second_flaw (tree_stage p with (only allowed v k) (node + 1)) (tree_stage p rest (without allowed v k) (node + 1 + node_count with)) in
    let all = stage_then Memory good (IsSplitFault p allowed v k node) (first × second) (Then first first_flaw second_flaw) (stage_of Memory good (Split node) (λ e. cc)) children in
    stage_where Memory (good × (first × second)) (IsSound p (Split' v k x with y rest) allowed) (Then good (IsSplitFault p allowed v k node) (Then first first_flaw second_flaw)) (λ s. (record { area = s.0; class = s.1; other = s.2 }, (s.3, s.4))) all

pub one_tree_fault_law : OneTreeFaultLaw
one_tree_fault_law p tree =
    let stage = tree_stage p tree (root_domains p) 0 in
    (λ one other a b. stage.once one other a b, λ sound fault a. stage.never sound fault a)
