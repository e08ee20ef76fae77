-- The lines of a certificate, one by one. Their texts are those of its spelling.
use Rattle.std.specs.Prelude.{ℕ, ℤ, List, [], ◌∷◌, ◌++◌, length, map, if◌then◌else◌}
use Rattle.agg_model.specs.Problem.{Grouping}
use Rattle.row_laws.specs.declared.row.Row.{Row as RowValue}
use Rattle.row_laws.specs.declared.leaf.Leaf.{Leaf}
use Rattle.row_laws.specs.declared.leaf.Leaf.TheVariants.{Sum as SumLeaf, Fixed as FixedLeaf}
use Rattle.row_laws.specs.declared.tree.Tree.{Tree, Leaf as LeafNode, Split'}
use Rattle.row_laws.specs.Values.{RowSum}
use Rattle.cert_text.specs.declared.certificate.Certificate.{Certificate}
use Rattle.cert_reader.specs.declared.line.Line.{Line}
use Rattle.cert_reader.specs.declared.line.Line.TheVariants.{Version, Status, Cost, Bound, Areas, Regions, Class, Region, Split, Fixed, Sum, Void, Row, End}

-- the line of a row with its multiplier
abbrev pub row_line : RowValue × ℤ → Line
row_line row = Row row.0 row.1

-- the line of a sum, and those of its rows
abbrev pub sum_lines : RowSum → List Line
sum_lines s = (if s.void then Void (length s.rows) else Sum s.denominator (length s.rows)) ∷ map row_line s.rows

abbrev pub leaf_lines : Leaf → List Line
leaf_lines (SumLeaf s) = sum_lines s
leaf_lines FixedLeaf = Fixed ∷ []

-- the nodes in preorder, `yes` before `no`
abbrev pub tree_lines : Tree Leaf → List Line
tree_lines (LeafNode leaf) = leaf_lines leaf
tree_lines (Split' area class _ with _ rest) = Split area class ∷ tree_lines with ++ tree_lines rest

-- the six lines at the head
abbrev pub head_lines : Certificate → List Line
head_lines c = Version ∷ Status c.status ∷ Cost c.cost ∷ Bound c.bound ∷ Areas c.areas ∷ Regions (length c.grouping.class_of) ∷ []

-- the class of each region, and the region of each area
abbrev pub group_lines : Grouping → List Line
group_lines g = map Class g.class_of ++ map Region g.region_of

abbrev pub certificate_lines : Certificate → List Line
certificate_lines c = head_lines c ++ group_lines c.grouping ++ tree_lines c.tree ++ End ∷ []
