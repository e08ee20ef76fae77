use Rattle.arc_dissolve.specs.Reaches.{AreReachesOf}
use Rattle.arc_dissolve.proofs.reach.grow.Given as goal

abbrev pub invariant-loop-place : goal.invariant-loop-place
invariant-loop-place l = AreReachesOf l.shells l.reaches
