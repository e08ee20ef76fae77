use Rattle.json_text.proofs.LawLemmas.{tree_no_fault}
use Rattle.json_text.proofs.laws.tree_without_fault.Goals as goal

pub returns : goal.returns
returns c = tree_no_fault
