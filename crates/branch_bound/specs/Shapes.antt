-- Trees that grow at their first tips.
use Rattle.std.specs.Prelude.{◌≡◌, ℕ, ◌+◌, ◌<◌, Bool, true, if◌then◌else◌}
use Rattle.row_laws.specs.Values.{Allowed}
use Rattle.row_laws.specs.Trees.{only, without}
use Rattle.row_laws.specs.declared.leaf.Leaf.{Leaf}
use Rattle.row_laws.specs.declared.tree.Tree.{Tree, Leaf as LeafNode, Split'}
use Rattle.branch_bound.specs.declared.tips.Tip.{Tip}
use Rattle.branch_bound.specs.declared.tips.Rank.{Rank}
use Rattle.branch_bound.specs.Tips.{rank_of_tip, is_before, first_rank}

-- a tip, or a split of an area by a class with the first rank of its tips
pub data Shape : Type 0 where
  Tipped : Tip → Shape
  Forked : ℕ → ℕ → Rank → Shape → Shape → Shape

abbrev pub rank_of : Shape → Rank
rank_of (Tipped t) = rank_of_tip t
rank_of (Forked v k r with rest) = r

abbrev pub forked : ℕ → ℕ → Shape → Shape → Shape
forked v k with rest = Forked v k (first_rank (rank_of with) (rank_of rest)) with rest

-- the first tip of the second tree goes before that of the first
abbrev pub is_second : Shape → Shape → Bool
is_second with rest = is_before (rank_of rest) (rank_of with)

abbrev pub first_tip : Shape → Tip
first_tip (Tipped t) = t
first_tip (Forked v k r with rest) = (if is_second with rest then first_tip rest else first_tip with)

-- the domains of the first tip
abbrev pub first_allowed : Shape → Allowed → Allowed
first_allowed (Tipped t) allowed = allowed
first_allowed (Forked v k r with rest) allowed =
    (if is_second with rest then first_allowed rest (without allowed v k) else first_allowed with (only allowed v k))

-- with another tree in place of the first tip
abbrev pub grown : Shape → Shape → Shape
grown (Tipped t) new = new
grown (Forked v k r with rest) new =
    (if is_second with rest then forked v k with (grown rest new) else forked v k (grown with new) rest)

abbrev pub splits_in : Shape → ℕ
splits_in (Tipped t) = 0
splits_in (Forked v k r with rest) = splits_in with + splits_in rest + 1

-- each split is of one of so many areas, by a class that it may have beside another one
abbrev pub AreSplits : ℕ → Shape → Allowed → Type 0
AreSplits n (Tipped t) allowed = Unit {0}
AreSplits n (Forked v k r with rest) allowed =
    (v < n) × (k < 64) × (allowed v k ≡ true) × ((j : ℕ) × (allowed v j ≡ true) × (j ≡ k → ⊥)) × AreSplits n with (only allowed v k) × AreSplits n rest (without allowed v k)

-- the same splits, and the leaves of the tips
abbrev pub IsTreeOf : Shape → Tree Leaf → Type 0
IsTreeOf (Tipped t) (LeafNode leaf) = t.leaf ≡ leaf
IsTreeOf (Tipped t) (Split' u j _ with' _ rest') = ⊥
IsTreeOf (Forked v k r with rest) (LeafNode leaf) = ⊥
IsTreeOf (Forked v k r with rest) (Split' u j _ with' _ rest') =
    (v ≡ u) × (k ≡ j) × IsTreeOf with with' × IsTreeOf rest rest'
