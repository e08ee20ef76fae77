use Rattle.region_edges.proofs.PointLemmas.{drawn_holds}
use Rattle.region_edges.proofs.laws.drawn_law.Goals as goal

pub returns : goal.returns
returns c = drawn_holds
