use Rattle.class_table.proofs.LawLemmas.{one_table_text}
use Rattle.class_table.proofs.laws.one_table.Goals as goal

pub returns : goal.returns
returns c = one_table_text
