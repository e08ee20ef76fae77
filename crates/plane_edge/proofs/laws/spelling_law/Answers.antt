use Rattle.plane_edge.proofs.SpellLemmas.{said_of_both}
use Rattle.plane_edge.proofs.laws.spelling_law.Goals as goal

pub returns : goal.returns
returns c = said_of_both
