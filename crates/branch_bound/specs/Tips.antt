-- Tips of a tree, and the order in which they are split.
use Rattle.std.specs.Prelude.{ℕ, ℤ, Bool, true, false, not, ◌&&◌, nat_le, int_lt, if◌then◌else◌}
use Rattle.agg_base.specs.declared.limits.TheConstants.{DEPTH}
use Rattle.row_laws.specs.declared.leaf.Leaf.{Leaf}
use Rattle.row_laws.specs.declared.leaf.Leaf.TheVariants.{Sum, Fixed}
use Rattle.row_laws.specs.declared.bound.Bound.{Bound}
use Rattle.row_laws.specs.declared.bound.Bound.TheVariants.{Least, Void}
use Rattle.bound_rows.specs.Offers.{is_less}
use Rattle.branch_bound.specs.declared.tips.Tip.{Tip}
use Rattle.branch_bound.specs.declared.tips.Rank.{Rank}

-- a leaf at this depth is not split: its areas have one class each, or no tree may be deeper
abbrev pub is_closed : Leaf → ℕ → Bool
is_closed Fixed d = true
is_closed (Sum s) d = nat_le DEPTH d

abbrev pub rank_of_tip : Tip → Rank
rank_of_tip t = record { bound = t.bound; is_closed = is_closed t.leaf t.depth }

-- the first rank goes before the second: its bound is less, or as great, and it alone is not closed
unfoldable pub is_before : Rank → Rank → Bool
is_before x y =
    (if is_less x.bound y.bound then true else (if is_less y.bound x.bound then false else (not x.is_closed && y.is_closed)))

-- the rank that goes first, the first at a tie
abbrev pub first_rank : Rank → Rank → Rank
first_rank x y = (if is_before y x then y else x)

-- the bound is below the cost
abbrev pub is_below : Bound → ℤ → Bool
is_below (Least b) c = int_lt b c
is_below Void c = false

-- a tip of this rank is worth less than the cost, and may be split
abbrev pub is_open : Rank → ℤ → Bool
is_open r c = is_below r.bound c && not r.is_closed
