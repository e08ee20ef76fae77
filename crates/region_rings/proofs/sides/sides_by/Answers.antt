use Rattle.region_rings.proofs.SideLemmas.{sides_more}
use Rattle.region_rings.proofs.sides.sides_by.Goals as goal

pub loop-edge-preserved : goal.loop-edge-preserved
loop-edge-preserved c =
    sides_more c.args.rows.now c.args.edges.now c.loop-edge.edge-index c.edge-item.result c.loop-edge.sides.items c.push.new.self.items c.is_leftward.result c.loop-edge-test.true c.edge-item.is c.loop-edge.invariant c.is_leftward.ensures c.in_ok-push.ensures.items
