-- What the judge of trees says.
use Rattle.std.specs.Prelude.{◌≡◌, ⊤}
use Rattle.agg_model.specs.Problem.{Problem}
use Rattle.row_laws.specs.declared.leaf.Leaf.{Leaf}
use Rattle.row_laws.specs.declared.tree.Tree.{Tree}
use Rattle.tree_check.specs.declared.fault.TreeFault.{TreeFault}
use Rattle.tree_check.specs.declared.fault.TreeFault.TheVariants.{Split, Denominator, Row, Negative, NotFixed, NotVoid, Wide, Memory}
use Rattle.tree_check.specs.Nodes.{IsSoundAtRoot, IsTreeFault}

-- memory ran out, or the fault is such a one
abbrev pub IsFaultOr : (TreeFault → Type 0) → TreeFault → Type 0
IsFaultOr IsFault Memory = ⊤
IsFaultOr IsFault fault = IsFault fault

-- a tree has one fault at most, and none where it is sound
abbrev pub OneTreeFaultLaw : Type 0
OneTreeFaultLaw =
    (p : Problem) (tree : Tree Leaf) → ((one other : TreeFault) → IsTreeFault p tree one → IsTreeFault p tree other → one ≡ other) × (IsSoundAtRoot p tree → (fault : TreeFault) → ¬ IsTreeFault p tree fault)
