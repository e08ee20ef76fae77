use Rattle.coverage_check.proofs.SharedLemmas.{NoThree}
use Rattle.coverage_check.proofs.shared.first_shared.Given as goal

abbrev pub invariant-loop-i : goal.invariant-loop-i
invariant-loop-i l = NoThree l.uses l.i
