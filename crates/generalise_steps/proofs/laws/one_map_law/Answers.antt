use Rattle.generalise_steps.proofs.MapLemmas.{one_map_text}
use Rattle.generalise_steps.proofs.laws.one_map_law.Goals as goal

pub returns : goal.returns
returns c = one_map_text
