use Rattle.class_table.proofs.LawLemmas.{some_answer}
use Rattle.class_table.proofs.laws.table_or_fault.Goals as goal

pub returns : goal.returns
returns c = some_answer
