use Rattle.grid_reader.proofs.JsonLemmas.{json_is_text}
use Rattle.json_text.proofs.NumberLemmas.{json_from}
use Rattle.grid_reader.proofs.number.read_corner.Goals as goal

pub returns-in_default-clause-none : goal.returns-in_default-clause-none
returns-in_default-clause-none c = λ is. c.in_default.ensures.cases.0 (json_is_text c.args.text.now (json_from c.args.text.now is.number))
