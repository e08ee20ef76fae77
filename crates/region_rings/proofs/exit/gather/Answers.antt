use Rattle.region_rings.proofs.ExitLemmas.{made_none, made_more}
use Rattle.region_rings.proofs.exit.gather.Goals as goal

pub loop-edge-init : goal.loop-edge-init
loop-edge-init c = made_none c.args.edges.now c.args.leftward.now c.in_ok-exits.exits.items c.in_ok-exits.ensures.items

pub loop-edge-preserved : goal.loop-edge-preserved
loop-edge-preserved c = made_more c.args.edges.now c.args.leftward.now c.loop-edge.edge c.loop-edge.exits.items c.push.new.self.items c.way_of-way.result c.loop-edge.invariant c.way_of-way.ensures c.in_ok-push.ensures.items
