-- What is read of the lines of a tree.
use Rattle.std.specs.Prelude.{◌≡◌, ⊤, ◌<◌, ◌≤◌, ◌+◌, ℕ, ℤ, List, [], ◌∷◌, length, map, replicate, All}
use Rattle.agg_base.specs.declared.limits.TheConstants.{DEPTH, SPLITS, MARKS}
use Rattle.row_laws.specs.declared.row.Row.{Row}
use Rattle.row_laws.specs.declared.leaf.Leaf.{Leaf}
use Rattle.row_laws.specs.declared.tree.Tree.{Tree, Leaf as LeafNode, Split'}
use Rattle.row_laws.specs.Values.{row_marks, mark_count}
use Rattle.row_laws.specs.Trees.{split_count, depth_of}
use Rattle.cert_text.specs.Lines.{IsRowInRange, IsMultiplier}
use Rattle.cert_reader.specs.Lines.{IsInRange}
use Rattle.cert_text.specs.TreeTexts.{tree_marks, IsTreeInRange}
use Rattle.cert_reader.specs.CertLines.{row_line, tree_lines}
use Rattle.cert_reader.specs.declared.line.Line.{Line}
use Rattle.cert_reader.specs.declared.line.Line.TheVariants as line
use Rattle.cert_reader.specs.Due.{Due, NodeDue, RowDue}
use Rattle.cert_reader.specs.Faults.{grown}
use Rattle.cert_reader.specs.Reads.{Left, Reads}
use Rattle.cert_reader.specs.declared.tree_reader.Node.{Node}
use Rattle.cert_reader.specs.declared.tree_reader.Node.TheVariants.{Split, Fixed, Sum, Void}

abbrev pub node_line : Node → Line
node_line (Split area class) = line.Split area class
node_line Fixed = line.Fixed
node_line (Sum denominator count) = line.Sum denominator count
node_line (Void count) = line.Void count

-- what is due behind a node at that depth
abbrev pub later_nodes : ℕ → Node → List Due
later_nodes depth (Split area class) = NodeDue (depth + 1) ∷ NodeDue (depth + 1) ∷ []
later_nodes depth Fixed = []
later_nodes depth (Sum denominator count) = replicate count RowDue
later_nodes depth (Void count) = replicate count RowDue

-- the tree is a split with these children
abbrev pub IsSplitOf : ℕ → ℕ → Tree Leaf → Tree Leaf → Tree Leaf → Type 0
IsSplitOf area class first second (LeafNode leaf) = ⊥
IsSplitOf area class first second (Split' v k _ with _ rest) = (v ≡ area) × (k ≡ class) × (with ≡ first) × (rest ≡ second)

-- the line of a node was read; it is not too deep, and not a split too many
pub record ReadsNode (depth : ℕ) (node : Node) (old new : Left) : Type 0 where
  pub reads : Reads (NodeDue depth ∷ []) (later_nodes depth node) (node_line node ∷ []) old new
  pub in_range : IsInRange (node_line node)
  pub deep : depth ≤ DEPTH
  pub size_is : new.size ≡ grown (node_line node) old.size
  pub splits : old.size.splits ≤ SPLITS → new.size.splits ≤ SPLITS

-- a row was read, which brings the marks not past the limit
pub record ReadsRow (row : Row × ℤ) (old new : Left) : Type 0 where
  pub reads : Reads (RowDue ∷ []) [] (row_line row ∷ []) old new
  pub in_range : IsRowInRange row.0
  pub multiplier : IsMultiplier row.1
  pub marks : new.size.marks ≡ old.size.marks + row_marks row.0
  pub splits : new.size.splits ≡ old.size.splits
  pub few : new.size.marks ≤ MARKS

-- so many rows were read
pub record ReadsRows (count : ℕ) (rows : List (Row × ℤ)) (old new : Left) : Type 0 where
  pub reads : Reads (replicate count RowDue) [] (map row_line rows) old new
  pub count_is : length rows ≡ count
  pub in_range : All (λ row. IsRowInRange row.0) rows
  pub multipliers : All (λ row. IsMultiplier row.1) rows
  pub marks : new.size.marks ≡ old.size.marks + mark_count rows
  pub splits : new.size.splits ≡ old.size.splits
  pub few : old.size.marks ≤ MARKS → new.size.marks ≤ MARKS

-- a tree was read whose root is at that depth
pub record ReadsTree (depth : ℕ) (tree : Tree Leaf) (old new : Left) : Type 0 where
  pub reads : Reads (NodeDue depth ∷ []) [] (tree_lines tree) old new
  pub in_range : IsTreeInRange tree
  pub deep : depth_of tree + depth ≤ DEPTH
  pub splits : new.size.splits ≡ old.size.splits + split_count tree
  pub marks : new.size.marks ≡ old.size.marks + tree_marks tree
  pub few_splits : old.size.splits ≤ SPLITS → new.size.splits ≤ SPLITS
  pub few_marks : old.size.marks ≤ MARKS → new.size.marks ≤ MARKS
