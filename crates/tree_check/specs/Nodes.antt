-- What may be wrong with the nodes of a tree.
use Rattle.std.specs.Prelude.{◌≡◌, ℕ, ◌<◌, ◌+◌, ◌*◌, true, ◌&&◌, nat_lt, Some, Ok, Err}
use Rattle.agg_model.specs.Problem.{Problem, areas}
use Rattle.row_laws.specs.declared.bound.Bound.{Bound}
use Rattle.row_laws.specs.declared.bound.Unsound.{Unsound}
use Rattle.row_laws.specs.declared.bound.Unsound.TheVariants.{Denominator as BadDenominator, Row as BadRow, Negative as BadSign, NotFixed as NotSingle}
use Rattle.row_laws.specs.declared.bound.Weak.{Weak}
use Rattle.row_laws.specs.declared.bound.Weak.TheVariants.{Wide as TooWide, NotVoid as BelowOne}
use Rattle.row_laws.specs.declared.leaf.Leaf.{Leaf}
use Rattle.row_laws.specs.declared.tree.Tree.{Tree, Leaf as LeafNode, Split'}
use Rattle.row_laws.specs.Values.{Allowed}
use Rattle.row_laws.specs.Trees.{only, without, HasOther, IsSoundTree, bound_of, split_count}
use Rattle.row_laws.specs.Leaves.{IsSoundLeaf, IsLeafFault, leaf_answer}
use Rattle.tree_check.specs.declared.fault.TreeFault.{TreeFault}
use Rattle.tree_check.specs.declared.fault.TreeFault.TheVariants.{Split, Denominator, Row, Negative, NotFixed, NotVoid, Wide}
use Rattle.tree_check.specs.First.{Then}

-- the domains of the root: each area may have every class
abbrev pub root_domains : Problem → Allowed
root_domains p = λ v k. nat_lt v (areas p) && nat_lt k p.classes

-- how many nodes the tree has
abbrev pub node_count : Tree Leaf → ℕ
node_count tree = 2 * split_count tree + 1

-- all leaves are sound and not weak, and all splits are on one of two or more allowed classes
abbrev pub IsSound : Problem → Tree Leaf → Allowed → Type 0
IsSound p tree allowed = IsSoundTree IsSoundLeaf leaf_answer p tree allowed

-- ---- leaves

abbrev pub fault_of_unsound : ℕ → Unsound → TreeFault
fault_of_unsound node BadDenominator = Denominator node
fault_of_unsound node (BadRow i) = Row node i
fault_of_unsound node (BadSign i) = Negative node i
fault_of_unsound node (NotSingle v) = NotFixed node v

abbrev pub fault_of_weak : ℕ → Weak → TreeFault
fault_of_weak node (TooWide entry) = Wide node entry
fault_of_weak node (BelowOne total) = NotVoid node total

abbrev pub IsUnsoundFault : Problem → Leaf → Allowed → ℕ → TreeFault → Type 0
IsUnsoundFault p leaf allowed node v =
    (fault : Unsound) × (v ≡ fault_of_unsound node fault) × IsLeafFault leaf p allowed fault

abbrev pub IsWeakFault : Problem → Leaf → Allowed → ℕ → TreeFault → Type 0
IsWeakFault p leaf allowed node v =
    (why : Weak) × (v ≡ fault_of_weak node why) × (leaf_answer leaf p allowed ≡ Err why)

-- the leaf is not sound, or it is weak
abbrev pub IsFaultOfLeaf : Problem → Leaf → Allowed → ℕ → TreeFault → Type 0
IsFaultOfLeaf p leaf allowed node =
    Then (IsSoundLeaf leaf p allowed) (IsUnsoundFault p leaf allowed node) (IsWeakFault p leaf allowed node)

-- ---- splits

-- an area of the problem, an allowed class of it, and another one that is allowed
pub record IsGoodSplit (p : Problem) (allowed : Allowed) (v k : ℕ) : Type 0 where
  pub area : v < areas p
  pub class : allowed v k ≡ true
  pub other : HasOther p allowed v k

abbrev pub IsSplitFault : Problem → Allowed → ℕ → ℕ → ℕ → TreeFault → Type 0
IsSplitFault p allowed area class node v = (¬ IsGoodSplit p allowed area class) × (v ≡ Split node)

-- ---- trees

-- the first fault of the nodes of a tree whose first node has this number: its split, its `yes` child, its `no` child
abbrev pub IsNodeFault : Problem → Tree Leaf → Allowed → ℕ → TreeFault → Type 0
IsNodeFault p (LeafNode leaf) allowed node v = IsFaultOfLeaf p leaf allowed node v
IsNodeFault p (Split' area class _ with _ rest) allowed node v =
    Then (IsGoodSplit p allowed area class) (IsSplitFault p allowed area class node) (Then (IsSound p with (only allowed area class)) (IsNodeFault p with (only allowed area class) (node + 1)) (IsNodeFault p rest (without allowed area class) (node + 1 + node_count with))) v

-- ---- the whole tree

-- the tree has this bound over the domains of the root
abbrev pub IsBoundOf : Problem → Tree Leaf → Bound → Type 0
IsBoundOf p tree b = bound_of leaf_answer p tree (root_domains p) ≡ Some b

-- the tree is sound over the domains of the root
abbrev pub IsSoundAtRoot : Problem → Tree Leaf → Type 0
IsSoundAtRoot p tree = IsSound p tree (root_domains p)

-- the first fault of the tree over the domains of the root
abbrev pub IsTreeFault : Problem → Tree Leaf → TreeFault → Type 0
IsTreeFault p tree fault = IsNodeFault p tree (root_domains p) 0 fault
