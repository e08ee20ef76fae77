use Rattle.generalise_steps.proofs.StepLemmas.{table_refused}
use Rattle.generalise_steps.proofs.loading.read_table.Goals as goal

pub returns-in-Err-clause-refused : goal.returns-in-Err-clause-refused
returns-in-Err-clause-refused c = λ format map layer spells. table_refused format map c.args.table.now layer c.in-Err.fault _ _ spells c.in-Err.ensures.fault c.line_of.ensures.line c.line_of.ensures.real c.of.ensures
