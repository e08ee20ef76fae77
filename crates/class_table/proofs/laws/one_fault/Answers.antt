use Rattle.class_table.proofs.LawLemmas.{one_first_fault}
use Rattle.class_table.proofs.laws.one_fault.Goals as goal

pub returns : goal.returns
returns c = one_first_fault
