use Rattle.coverage_check.proofs.WalkLemmas.{IsWalked}
use Rattle.coverage_check.proofs.walk.first_twice.Given as goal

abbrev pub invariant-loop-at : goal.invariant-loop-at
invariant-loop-at l = IsWalked l.borders l.at l.within
