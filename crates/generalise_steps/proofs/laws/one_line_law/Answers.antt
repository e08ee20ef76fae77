use Rattle.generalise_steps.proofs.MapLemmas.{one_map_line}
use Rattle.generalise_steps.proofs.laws.one_line_law.Goals as goal

pub returns : goal.returns
returns c = one_map_line
