use Rattle.std.proofs.Common.{◌-◌, arith, length}
use Rattle.arc_dissolve.proofs.ReachLemmas.{reaches_set}
use Rattle.arc_dissolve.proofs.reach.grow.Goals as goal

pub loop-place-preserved : goal.loop-place-preserved
loop-place-preserved c =
    reaches_set c.args.shells.now (length c.args.shells.now) (c.loop-place.place - 1) c.loop-place.reaches c.reach_of.result c.loop-place.invariant (omega (arith, c.loop-place.auto.place, c.loop-place-test.true)) c.reach_of.ensures
