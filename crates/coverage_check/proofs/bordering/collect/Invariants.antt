use Rattle.coverage_check.specs.Bordering.{AreBordersUpTo}
use Rattle.coverage_check.proofs.bordering.collect.Given as goal

abbrev pub invariant-loop-at : goal.invariant-loop-at
invariant-loop-at l = AreBordersUpTo l.uses l.at l.borders.items
