-- What a search answers.
use Rattle.std.specs.Prelude.{◌≡◌, ℕ, ◌+◌, ◌-◌, ◌^◌, ◌≤◌, Bool, true, false, List, Some, ℤ, ◌≤ℤ◌, ◌<ℤ◌, min}
use Rattle.agg_base.specs.declared.limits.TheConstants.{DEPTH}
use Rattle.agg_model.specs.Problem.{Problem, Grouping, IsFeasible, cost}
use Rattle.greedy_start.specs.Starts.{IsNumberedByLeast, IsNoDearerThanParts, IsFirstHopeless}
use Rattle.row_laws.specs.Values.{Allowed, RowSum}
use Rattle.row_laws.specs.FirstSums.{IsPartOf, void_sum}
use Rattle.row_laws.specs.Leaves.{IsSoundLeaf, leaf_answer, IsRoot}
use Rattle.row_laws.specs.Trees.{IsSoundTree, bound_of, split_count, depth_of}
use Rattle.row_laws.specs.declared.bound.Bound.{Bound}
use Rattle.row_laws.specs.declared.bound.Bound.TheVariants.{Least, Void}
use Rattle.row_laws.specs.declared.leaf.Leaf.{Leaf}
use Rattle.row_laws.specs.declared.leaf.Leaf.TheVariants.{Sum}
use Rattle.row_laws.specs.declared.tree.Tree.{Tree, Leaf as LeafNode}
use Rattle.branch_bound.specs.declared.outcome.Kind.{Kind}
use Rattle.branch_bound.specs.declared.outcome.Kind.TheVariants.{Optimal, Within, NoGrouping}
use Rattle.branch_bound.specs.declared.outcome.Outcome.{Outcome}
use Rattle.branch_bound.specs.declared.tips.Rank.{Rank}
use Rattle.branch_bound.specs.Tips.{is_below}
use Rattle.branch_bound.specs.Trees.{Fits, no_parent, IsKept, IsDeep, node_count}

-- the tree is sound over the domains of the root, and this is its bound
pub record Proves (p : Problem) (tree : Tree Leaf) (b : Bound) : Type 0 where
  pub allowed : Allowed
  pub root : IsRoot p allowed
  pub sound : IsSoundTree IsSoundLeaf leaf_answer p tree allowed
  pub bound : bound_of leaf_answer p tree allowed ≡ Some b

-- a grouping is feasible and numbered by its least areas, it costs no more than one region for each part, and this is its cost
pub record IsFound (p : Problem) (g : Grouping) (c : ℤ) : Type 0 where
  pub feasible : IsFeasible p g
  pub numbered : IsNumberedByLeast p g
  pub cheap : IsNoDearerThanParts p g
  pub costs : c ≡ cost p g

-- the tree proves the bound, which holds of every feasible grouping; it is no greater than it may be, and its leaves and splits rest on offers
pub record IsSearched (p : Problem) (share : ℕ) (fits : Allowed → RowSum → Type 0) (splits : ℕ) (c b : ℤ) (tree : Tree Leaf) : Type 0 where
  pub proves : Proves p tree (Least b)
  pub holds : (g : Grouping) → IsFeasible p g → b ≤ℤ cost p g
  pub few : split_count tree ≤ splits
  pub shallow : depth_of tree ≤ DEPTH
  pub kept : IsKept p share fits c no_parent tree proves.allowed

-- the bound is below the cost, since all splits are spent, or since each leaf of this bound stands at the greatest depth
pub record IsWithin (p : Problem) (share : ℕ) (fits : Allowed → RowSum → Type 0) (splits : ℕ) (c b : ℤ) (deep : Bool) (tree : Tree Leaf) : Type 0 where
  pub searched : IsSearched p share fits splits c b tree
  pub below : b <ℤ c
  pub spent : deep ≡ false → split_count tree ≡ splits
  pub deepest : deep ≡ true → IsDeep p (Least b) tree searched.proves.allowed 0

-- nothing is feasible, since the first hopeless part has no region: the one whose least area this is. The void leaf over it proves that.
pub record IsNone (p : Problem) (tree : Tree Leaf) : Type 0 where
  pub area : ℕ
  pub part : List ℕ
  pub none_feasible : (g : Grouping) → ¬ IsFeasible p g
  pub first : IsFirstHopeless p area
  pub part_is : IsPartOf p area part
  pub leaf : tree ≡ LeafNode (Sum (void_sum p area part))
  pub proves : Proves p tree Void

abbrev pub IsKind : Problem → ℕ → Fits → ℕ → Tree Leaf → Kind → Type 0
IsKind p share fits splits tree (Optimal best c) = IsFound p best c × IsSearched p share fits splits c c tree
IsKind p share fits splits tree (Within best c b deep) = IsFound p best c × IsWithin p share fits splits c b deep tree
IsKind p share fits splits tree NoGrouping = IsNone p tree

abbrev pub IsSolved : Problem → ℕ → Fits → ℕ → Outcome → Type 0
IsSolved p share fits splits outcome = IsKind p share fits splits outcome.tree outcome.kind

-- the provider was asked once for each node, unless nothing is feasible
abbrev pub IsAskedFor : ℕ → ℕ → Tree Leaf → Kind → Type 0
IsAskedFor old new tree (Optimal best c) = new ≡ min (old + node_count tree) (2 ^ 64 - 1)
IsAskedFor old new tree (Within best c b deep) = new ≡ min (old + node_count tree) (2 ^ 64 - 1)
IsAskedFor old new tree NoGrouping = Unit {0}

abbrev pub IsAsked : ℕ → ℕ → Outcome → Type 0
IsAsked old new outcome = IsAskedFor old new outcome.tree outcome.kind

-- the best grouping and its cost are stated, and how the cost stands to the bound of the first tip
abbrev pub IsKindBy : Grouping → ℤ → Rank → Kind → Type 0
IsKindBy g c r (Optimal best cost) = (best ≡ g) × (cost ≡ c) × (is_below r.bound c ≡ false)
IsKindBy g c r (Within best cost b deep) = (best ≡ g) × (cost ≡ c) × (r.bound ≡ Least b) × (b <ℤ c) × (deep ≡ r.is_closed)
IsKindBy g c r NoGrouping = ⊥
