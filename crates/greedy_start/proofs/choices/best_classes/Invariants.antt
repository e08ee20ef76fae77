use Rattle.greedy_start.specs.Tallies.{AreBest}
use Rattle.greedy_start.proofs.choices.best_classes.Given as goal

abbrev pub invariant-loop-class : goal.invariant-loop-class
invariant-loop-class l = AreBest l.problem l.parts l.class l.best.items
