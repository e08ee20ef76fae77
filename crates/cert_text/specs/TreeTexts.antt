-- The lines of a tree: its nodes in preorder, `yes` before `no`.
use Rattle.std.specs.Prelude.{◌≡◌, ⊤, ◌<◌, ◌≤◌, ◌+◌, ℕ, ℤ, true, List, [], ◌∷◌, ◌++◌, length, map, All, if◌then◌else◌}
use Rattle.agg_base.specs.declared.limits.TheConstants.{AREAS, CLASSES, MARKS, SPLITS, DEPTH, DENOMINATOR}
use Rattle.row_laws.specs.declared.row.Row.{Row}
use Rattle.row_laws.specs.declared.leaf.Leaf.{Leaf}
use Rattle.row_laws.specs.declared.leaf.Leaf.TheVariants.{Sum, Fixed}
use Rattle.row_laws.specs.declared.tree.Tree.{Tree, Leaf as LeafNode, Split'}
use Rattle.row_laws.specs.Values.{RowSum, mark_count}
use Rattle.row_laws.specs.Trees.{split_count, depth_of}
use Rattle.cert_text.specs.Lines.{IsRowInRange, IsMultiplier}
use Rattle.cert_text.specs.declared.line.Line.{Line}
use Rattle.cert_text.specs.declared.line.Line.TheVariants as line

-- the line of a row with its multiplier
abbrev pub row_line : Row × ℤ → Line
row_line row = line.Row row.0 row.1

-- the line of a sum, and those of its rows
abbrev pub sum_lines : RowSum → List Line
sum_lines s = (if s.void then line.Void (length s.rows) else line.Sum s.denominator (length s.rows)) ∷ map row_line s.rows

abbrev pub leaf_lines : Leaf → List Line
leaf_lines (Sum s) = sum_lines s
leaf_lines Fixed = line.Fixed ∷ []

abbrev pub tree_lines : Tree Leaf → List Line
tree_lines (LeafNode leaf) = leaf_lines leaf
tree_lines (Split' area class _ with _ rest) = line.Split area class ∷ tree_lines with ++ tree_lines rest

-- how many marks the sums have in all
abbrev pub leaf_marks : Leaf → ℕ
leaf_marks (Sum s) = mark_count s.rows
leaf_marks Fixed = 0

abbrev pub tree_marks : Tree Leaf → ℕ
tree_marks (LeafNode leaf) = leaf_marks leaf
tree_marks (Split' area class _ with _ rest) = tree_marks with + tree_marks rest

-- The denominator is 1 to 4,096, and 1 in void mode. Each row is in range.
pub record IsSumInRange (s : RowSum) : Type 0 where
  pub some : 1 ≤ s.denominator
  pub most : s.denominator ≤ DENOMINATOR
  pub void : s.void ≡ true → s.denominator ≡ 1
  pub rows : All (λ row. IsRowInRange row.0) s.rows
  pub multipliers : All (λ row. IsMultiplier row.1) s.rows

abbrev pub IsLeafInRange : Leaf → Type 0
IsLeafInRange (Sum s) = IsSumInRange s
IsLeafInRange Fixed = ⊤

abbrev pub IsTreeInRange : Tree Leaf → Type 0
IsTreeInRange (LeafNode leaf) = IsLeafInRange leaf
IsTreeInRange (Split' area class _ with _ rest) = (area < AREAS) × (class < CLASSES) × IsTreeInRange with × IsTreeInRange rest

-- the tree has a spelling: its numbers are in range, it is not too deep, and it has not too many splits and marks
pub record HasTreeSpelling (tree : Tree Leaf) : Type 0 where
  pub in_range : IsTreeInRange tree
  pub depth : depth_of tree ≤ DEPTH
  pub splits : split_count tree ≤ SPLITS
  pub marks : tree_marks tree ≤ MARKS
