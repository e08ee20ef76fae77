-- What a tree has used up whose bound stays below the cost, and what its leaves are worth at least.
use Rattle.std.specs.Prelude.{◌≡◌, ◌⊎◌, ℕ, ℤ}
use Rattle.agg_model.specs.Problem.{Problem}
use Rattle.row_laws.specs.Values.{Allowed}
use Rattle.row_laws.specs.Leaves.{IsRoot}
use Rattle.row_laws.specs.Trees.{split_count}
use Rattle.row_laws.specs.declared.bound.Bound.TheVariants.{Least}
use Rattle.row_laws.specs.declared.leaf.Leaf.{Leaf}
use Rattle.row_laws.specs.declared.tree.Tree.{Tree}
use Rattle.branch_bound.specs.Trees.{IsDeep}
use Rattle.search_answer.specs.Ascents.{AreAboveAscents, IsDealt}

-- the tree has exactly n splits, or each of its leaves of that bound stands at the greatest depth
abbrev pub IsUsedUp : Problem → ℕ → ℤ → Tree Leaf → Type 0
IsUsedUp p n b tree = (split_count tree ≡ n) ⊎ ((allowed : Allowed) × IsRoot p allowed × IsDeep p (Least b) tree allowed 0)

-- each leaf but `Fixed` is worth at least some ascent over its domains, with all marks of a certificate or with the share of a leaf among n splits
abbrev pub HasAscents : Problem → ℕ → Tree Leaf → Type 0
HasAscents p n tree = (share : ℕ) × (allowed : Allowed) × IsDealt n share × IsRoot p allowed × AreAboveAscents p share tree allowed
