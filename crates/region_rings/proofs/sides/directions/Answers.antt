use Rattle.region_rings.proofs.SideLemmas.{sides_alike}
use Rattle.region_rings.proofs.sides.directions.Goals as goal

pub returns : goal.returns
returns c = sides_alike c.in_ok-rows.rows c.args.edges.now c.in_ok-rows.ensures c.args.edges.now c.in_ok-sides.sides.items c.in_ok-sides.ensures
