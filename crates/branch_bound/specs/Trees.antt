-- What holds of every tip and every split of a tree.
use Rattle.std.specs.Prelude.{◌≡◌, ℕ, ◌+◌, ◌<◌, ◌≤◌, ◌⊎◌, true, ℤ, Ok}
use Rattle.agg_base.specs.declared.limits.TheConstants.{DEPTH}
use Rattle.agg_model.specs.Problem.{Problem, Grouping, IsFeasible, areas}
use Rattle.row_laws.specs.Values.{Allowed, RowSum}
use Rattle.row_laws.specs.Trees.{only, without, HasOther}
use Rattle.row_laws.specs.Fixed.{AreSingle}
use Rattle.row_laws.specs.Bounds.{HoldsFor}
use Rattle.row_laws.specs.FirstSums.{plain_sum}
use Rattle.row_laws.specs.Leaves.{IsSoundLeaf, leaf_answer}
use Rattle.row_laws.specs.declared.bound.Bound.{Bound}
use Rattle.row_laws.specs.declared.bound.Bound.TheVariants.{Least}
use Rattle.row_laws.specs.declared.leaf.Leaf.{Leaf}
use Rattle.row_laws.specs.declared.leaf.Leaf.TheVariants.{Sum, Fixed}
use Rattle.row_laws.specs.declared.tree.Tree.{Tree, Leaf as LeafNode, Split'}
use Rattle.bound_rows.specs.Offers.{IsAtMost, IsWorth, IsUsable}
use Rattle.branch_bound.specs.declared.tips.Tip.{Tip}
use Rattle.branch_bound.specs.Tips.{first_rank}
use Rattle.branch_bound.specs.Shapes.{Shape, Tipped, Forked, rank_of}

-- the area may have the class, and another one
abbrev pub IsFork : Problem → Allowed → ℕ → ℕ → Type 0
IsFork p allowed v k = (v < areas p) × (allowed v k ≡ true) × HasOther p allowed v k

-- each tip and each split keeps its rule over its domains, where the leaf is known that the parent had; each split has the first rank of its tips
abbrev pub IsGrown : Problem → (Leaf → Allowed → ℕ → Tip → Type 0) → (Leaf → Allowed → Leaf → Type 0) → Leaf → Shape → Allowed → ℕ → Type 0
IsGrown p tip spent from (Tipped t) allowed d = tip from allowed d t
IsGrown p tip spent from (Forked v k r with rest) allowed d =
    IsFork p allowed v k × (r ≡ first_rank (rank_of with) (rank_of rest)) × (was : (had : Leaf) × spent from allowed had) × IsGrown p tip spent was.0 with (only allowed v k) (d + 1) × IsGrown p tip spent was.0 rest (without allowed v k) (d + 1)

-- which sums a provider may offer over domains
abbrev pub Fits : Type 1
Fits = Allowed → RowSum → Type 0

-- the leaf that stands for the one that a parent had, where there is no parent
abbrev pub no_parent : Leaf
no_parent = Sum plain_sum

-- the leaf is the offer where that is usable, the leaf that its parent had, or the sum without rows; it is worth at least as much as the offer
-- where that is usable
pub record IsTaken (p : Problem) (share : ℕ) (allowed : Allowed) (from : Leaf) (offer : RowSum) (leaf : Leaf) : Type 0 where
  pub source : ((leaf ≡ Sum offer) × IsUsable p allowed share offer) ⊎ ((leaf ≡ from) ⊎ (leaf ≡ Sum plain_sum))
  pub worth : (b c : Bound) → IsWorth p allowed share offer b → leaf_answer leaf p allowed ≡ Ok c → IsAtMost b c

-- the leaf is what is made of an offer that fits and of the leaf that its parent had
abbrev pub IsOffered : Problem → ℕ → Fits → Leaf → Allowed → Leaf → Type 0
IsOffered p share fits from allowed leaf =
    (offer : RowSum) × fits allowed offer × IsTaken p share allowed from offer leaf

-- what the tip states is so, and its leaf is made of an offer where an area has more than one class
pub record IsTipOver (p : Problem) (share : ℕ) (fits : Allowed → RowSum → Type 0) (from : Leaf) (allowed : Allowed) (d : ℕ) (t : Tip) : Type 0 where
  pub sound : IsSoundLeaf t.leaf p allowed
  pub worth : leaf_answer t.leaf p allowed ≡ Ok t.bound
  pub depth : t.depth ≡ d
  pub shallow : d ≤ DEPTH
  pub single : AreSingle p allowed (areas p) → t.leaf ≡ Fixed
  pub offered : (¬ AreSingle p allowed (areas p)) → IsOffered p share fits from allowed t.leaf

-- areas with one class each cost this or more
abbrev pub IsNoCheaper : ℤ → Tip → Type 0
IsNoCheaper c t = t.leaf ≡ Fixed → IsAtMost (Least c) t.bound

abbrev pub IsGoodTip : Problem → ℕ → Fits → ℤ → Leaf → Allowed → ℕ → Tip → Type 0
IsGoodTip p share fits c from allowed d t = IsTipOver p share fits from allowed d t × IsNoCheaper c t

-- the bound holds of every feasible grouping
abbrev pub HoldsOfAll : Problem → Bound → Type 0
HoldsOfAll p b = (g : Grouping) → IsFeasible p g → HoldsFor b p g

-- a split was worth its while: it had a leaf that was made of an offer that fits, and this proves no more than what holds of every feasible
-- grouping
abbrev pub IsSpent : Problem → ℕ → Fits → Leaf → Allowed → Leaf → Type 0
IsSpent p share fits from allowed had =
    (offer : RowSum) × fits allowed offer × IsTaken p share allowed from offer had × ((b : Bound) → IsWorth p allowed share offer b → HoldsOfAll p b)

-- ---- trees

-- the leaf is `Fixed` where each area has one class, and then costs no less than the best grouping; else it is made of an offer
pub record IsKeptLeaf (p : Problem) (share : ℕ) (fits : Allowed → RowSum → Type 0) (c : ℤ) (from leaf : Leaf) (allowed : Allowed) : Type 0 where
  pub single : AreSingle p allowed (areas p) → leaf ≡ Fixed
  pub offered : (¬ AreSingle p allowed (areas p)) → IsOffered p share fits from allowed leaf
  pub dear : (b : Bound) → leaf ≡ Fixed → leaf_answer leaf p allowed ≡ Ok b → IsAtMost (Least c) b

-- the split had a leaf that was made of an offer that fits, and this is worth no more than the best grouping costs, where it is usable
abbrev pub IsKeptSplit : Problem → ℕ → Fits → ℤ → Leaf → Allowed → Leaf → Type 0
IsKeptSplit p share fits c from allowed had =
    (offer : RowSum) × fits allowed offer × IsTaken p share allowed from offer had × ((b : Bound) → IsWorth p allowed share offer b → IsAtMost b (Least c))

-- each leaf and each split rests on an offer, where the leaf is known that the parent had
abbrev pub IsKept : Problem → ℕ → Fits → ℤ → Leaf → Tree Leaf → Allowed → Type 0
IsKept p share fits c from (LeafNode leaf) allowed = IsKeptLeaf p share fits c from leaf allowed
IsKept p share fits c from (Split' v k _ with _ rest) allowed =
    (was : (had : Leaf) × IsKeptSplit p share fits c from allowed had) × IsKept p share fits c was.0 with (only allowed v k) × IsKept p share fits c was.0 rest (without allowed v k)

-- each leaf of that value stands at the greatest depth
abbrev pub IsDeep : Problem → Bound → Tree Leaf → Allowed → ℕ → Type 0
IsDeep p b (LeafNode leaf) allowed d = leaf_answer leaf p allowed ≡ Ok b → d ≡ DEPTH
IsDeep p b (Split' v k _ with _ rest) allowed d =
    IsDeep p b with (only allowed v k) (d + 1) × IsDeep p b rest (without allowed v k) (d + 1)

-- leaves and splits
abbrev pub node_count : Tree Leaf → ℕ
node_count (LeafNode leaf) = 1
node_count (Split' v k _ with _ rest) = node_count with + node_count rest + 1
