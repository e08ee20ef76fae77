use Rattle.arc_dissolve.specs.Reaches.{AreReachesTo}
use Rattle.arc_dissolve.proofs.reach.own_reaches.Given as goal

abbrev pub invariant-loop-place : goal.invariant-loop-place
invariant-loop-place l = AreReachesTo l.shells l.place l.reaches.items
