use Rattle.generalise_steps.proofs.MapLemmas.{map_no_line}
use Rattle.generalise_steps.proofs.laws.map_without_line_law.Goals as goal

pub returns : goal.returns
returns c = map_no_line
