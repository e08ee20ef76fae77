use Rattle.branch_bound.proofs.PairLemmas.{IsSoFar}
use Rattle.branch_bound.proofs.pairs.heaviest.Given as goal

abbrev pub invariant-loop-area : goal.invariant-loop-area
invariant-loop-area l = IsSoFar l.problem l.domains l.area l.found
