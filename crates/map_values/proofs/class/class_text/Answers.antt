use Rattle.std.proofs.Common.{◌∙◌, ap}
use Rattle.json_text.specs.Values.{json_of}
use Rattle.map_values.proofs.Trees.{number_tree}
use Rattle.map_values.proofs.class.class_text.Goals as goal

pub returns-in-Number-clause-none : goal.returns-in-Number-clause-none
returns-in-Number-clause-none c = rw (ap json_of c.in-Number.is ∙ number_tree c.in-Number.number) c.number_class.ensures.none
