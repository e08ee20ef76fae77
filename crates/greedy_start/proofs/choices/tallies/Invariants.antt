use Rattle.greedy_start.specs.Tallies.{AreTallies}
use Rattle.greedy_start.proofs.choices.tallies.Given as goal

abbrev pub invariant-loop-area : goal.invariant-loop-area
invariant-loop-area l = AreTallies l.problem l.parts l.class l.area l.tallies.items
