-- What the leaves of a search are worth at least.
use Rattle.std.specs.Prelude.{◌≡◌, ℕ, ◌+◌, ◌/◌, ◌⊎◌, Ok}
use Rattle.agg_base.specs.declared.limits.TheConstants.{MARKS}
use Rattle.agg_model.specs.Problem.{Problem}
use Rattle.row_laws.specs.Values.{RowSum, Allowed}
use Rattle.row_laws.specs.Exact.{answer}
use Rattle.row_laws.specs.Trees.{only, without}
use Rattle.row_laws.specs.Leaves.{leaf_answer}
use Rattle.row_laws.specs.declared.bound.Bound.{Bound}
use Rattle.row_laws.specs.declared.leaf.Leaf.{Leaf}
use Rattle.row_laws.specs.declared.leaf.Leaf.TheVariants.{Fixed}
use Rattle.row_laws.specs.declared.tree.Tree.{Tree, Leaf as LeafNode, Split'}
use Rattle.bound_rows.specs.Offers.{IsAtMost}
use Rattle.relax_bound.specs.Ascents.{IsAscent}

-- the leaf is worth at least as much as some ascent over its domains
abbrev pub IsAboveAscent : Problem → ℕ → Leaf → Allowed → Type 0
IsAboveAscent p share leaf allowed =
    (s : RowSum) × IsAscent p allowed share s × ((b c : Bound) → answer p allowed s ≡ Ok b → leaf_answer leaf p allowed ≡ Ok c → IsAtMost b c)

-- each leaf but `Fixed` is
abbrev pub AreAboveAscents : Problem → ℕ → Tree Leaf → Allowed → Type 0
AreAboveAscents p share (LeafNode leaf) allowed = (leaf ≡ Fixed → ⊥) → IsAboveAscent p share leaf allowed
AreAboveAscents p share (Split' v k _ with _ rest) allowed =
    AreAboveAscents p share with (only allowed v k) × AreAboveAscents p share rest (without allowed v k)

-- the share of marks of a leaf: all marks of a certificate, or a part of them where there may be n splits
abbrev pub IsDealt : ℕ → ℕ → Type 0
IsDealt n share = (share ≡ MARKS) ⊎ (share ≡ MARKS / (n + 1))
