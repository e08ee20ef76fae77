use Rattle.ring_arcs.proofs.WayLemmas.{ways_more}
use Rattle.ring_arcs.proofs.ways.both_ways.Goals as goal

pub loop-edge-preserved : goal.loop-edge-preserved
loop-edge-preserved c =
    ways_more c.args.edges.now c.loop-edge.edge-index c.edge-item.result c.loop-edge.ways.items c.push.new.self.items c.push-in-loop-edge.new.self.items c.loop-edge-test.true c.edge-item.is c.loop-edge.invariant c.in_ok-push.ensures.items c.in_ok-push-2.ensures.items
