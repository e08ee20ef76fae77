use Rattle.arc_dissolve.proofs.ReachLemmas.{reaches_more}
use Rattle.arc_dissolve.proofs.reach.own_reaches.Goals as goal

pub loop-place-preserved : goal.loop-place-preserved
loop-place-preserved c =
    reaches_more c.args.shells.now c.loop-place.place c.loop-place.reaches.items c.push.new.self.items c.own_reach.result c.loop-place.invariant c.own_reach.ensures c.in_ok-push.ensures.items
