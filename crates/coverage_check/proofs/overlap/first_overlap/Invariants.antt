use Rattle.coverage_check.proofs.OverlapLemmas.{IsPast}
use Rattle.coverage_check.proofs.overlap.first_overlap.Given as goal

abbrev pub invariant-loop-at : goal.invariant-loop-at
invariant-loop-at l = IsPast l.heights l.borders l.at l.next l.active.items
