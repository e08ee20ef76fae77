-- Trees over the same domains, and faults of trees.
use Rattle.std.proofs.Common.{◌≡◌, ℕ, subst, Option}
use Rattle.agg_model.specs.Problem.{Problem}
use Rattle.row_laws.specs.declared.bound.Bound.{Bound}
use Rattle.row_laws.specs.declared.leaf.Leaf.{Leaf}
use Rattle.row_laws.specs.declared.tree.Tree.{Tree}
use Rattle.row_laws.specs.Values.{Allowed}
use Rattle.row_laws.specs.Trees.{bound_of}
use Rattle.row_laws.specs.Leaves.{leaf_answer}
use Rattle.tree_check.specs.declared.fault.TreeFault.{TreeFault}
use Rattle.tree_check.specs.declared.fault.TreeFault.TheVariants.{Split, Denominator, Row, Negative, NotFixed, NotVoid, Wide, Memory}
use Rattle.tree_check.specs.Nodes.{IsSound, IsNodeFault}
use Rattle.tree_check.specs.Laws.{IsFaultOr}

-- the same over the same domains
pub sound_over : (p : Problem) (tree : Tree Leaf) (a b : Allowed) → a ≡ b → IsSound p tree a → IsSound p tree b
sound_over p tree a b e h = subst (λ (x : Allowed). IsSound p tree x) e h

pub fault_over : (p : Problem) (tree : Tree Leaf) (a b : Allowed) (node : ℕ) (v : TreeFault) → a ≡ b → IsNodeFault p tree a node v → IsNodeFault p tree b node v
fault_over p tree a b node v e h = subst (λ (x : Allowed). IsNodeFault p tree x node v) e h

pub bound_over : (p : Problem) (tree : Tree Leaf) (a b : Allowed) (o : Option Bound) → a ≡ b → bound_of leaf_answer p tree a ≡ o → bound_of leaf_answer p tree b ≡ o
bound_over p tree a b o e h = subst (λ (x : Allowed). bound_of leaf_answer p tree x ≡ o) e h

-- ---- faults

-- a fault is such a one, or memory ran out
pub fault_or : (IsFault : TreeFault → Type 0) (fault : TreeFault) → IsFault fault → IsFaultOr IsFault fault
fault_or IsFault (Split node) h = h
fault_or IsFault (Denominator node) h = h
fault_or IsFault (Row node row) h = h
fault_or IsFault (Negative node row) h = h
fault_or IsFault (NotFixed node area) h = h
fault_or IsFault (NotVoid node total) h = h
fault_or IsFault (Wide node entry) h = h
fault_or IsFault Memory h = tt
