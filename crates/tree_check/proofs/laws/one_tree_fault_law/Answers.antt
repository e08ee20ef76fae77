use Rattle.tree_check.proofs.TreeStages.{one_tree_fault_law}
use Rattle.tree_check.proofs.laws.one_tree_fault_law.Goals as goal

pub returns : goal.returns
returns c = one_tree_fault_law
