use Rattle.region_edges.proofs.PointLemmas.{point_sets_hold}
use Rattle.region_edges.proofs.laws.point_sets_law.Goals as goal

pub returns : goal.returns
returns c = point_sets_hold
