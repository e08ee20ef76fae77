use Rattle.region_rings.proofs.SpokeLemmas.{spokes_more}
use Rattle.region_rings.proofs.spoke.gather.Goals as goal

pub loop-number-preserved : goal.loop-number-preserved
loop-number-preserved c =
    spokes_more c.args.edges.now c.loop-number.number c.index-edges-number.result c.loop-number.spokes.items c.push.new.self.items c.push-in-loop-number.new.self.items c.loop-number-test.true c.index-edges-number.is c.loop-number.invariant c.in_ok-push.ensures.items c.in_ok-push-2.ensures.items
