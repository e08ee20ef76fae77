use Rattle.std.proofs.Common.{List, ℕ}
use Rattle.agg_model.specs.Problem.{areas}
use Rattle.greedy_start.specs.Tallies.{AreTallies, AreBest}
use Rattle.greedy_start.proofs.BestSteps.{AreImproved}
use Rattle.greedy_start.proofs.choices.improve.Given as goal

abbrev pub invariant-loop-part : goal.invariant-loop-part
invariant-loop-part l =
    (parts : List ℕ)
    → AreTallies l.problem parts l.class (areas l.problem) l.tallies
    → AreBest l.problem parts l.class l.fn.best
    → AreImproved l.problem parts l.class l.part l.best
