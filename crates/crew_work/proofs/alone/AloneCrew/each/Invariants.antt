use Rattle.crew_work.specs.Pieces.{AreInOrder}
use Rattle.crew_work.proofs.alone.AloneCrew.each.Given as goal

abbrev pub invariant-loop-at : goal.invariant-loop-at
invariant-loop-at g l = AreInOrder (g.J.Job.stands l.job) l.at l.pieces.items
