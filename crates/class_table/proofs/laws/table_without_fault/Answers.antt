use Rattle.class_table.proofs.LawLemmas.{table_no_fault}
use Rattle.class_table.proofs.laws.table_without_fault.Goals as goal

pub returns : goal.returns
returns c = table_no_fault
