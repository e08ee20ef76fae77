use Rattle.json_text.specs.Values.{json_of}
use Rattle.generalise_steps.proofs.StepLemmas.{json_refused}
use Rattle.generalise_steps.proofs.WithinLemmas.{text_within}
use Rattle.generalise_steps.proofs.map_reading.read_tree.Goals as goal

pub returns-in-Ok-clause-within : goal.returns-in-Ok-clause-within
returns-in-Ok-clause-within c = text_within c.args.text.now (json_of c.in-Ok.tree) c.requires c.in-Ok.ensures.found

pub returns-in-Err-clause-refused : goal.returns-in-Err-clause-refused
returns-in-Err-clause-refused c = json_refused c.args.file.now c.args.text.now c.in-Err.fault _ _ c.in-Err.ensures.fault c.of_json.ensures.line c.of_json.ensures.real c.of.ensures
