use Rattle.std.proofs.Common.{length, ◌-◌}
use Rattle.coverage_check.proofs.ActiveLemmas.{IsTaking}
use Rattle.coverage_check.proofs.strip.take_up.Given as goal

abbrev pub invariant-loop-at : goal.invariant-loop-at
invariant-loop-at l = IsTaking l.borders l.from l.at l.low l.high l.initial.active.items l.active.items

abbrev pub decreases-loop-at : goal.decreases-loop-at
decreases-loop-at l = length l.borders - l.at
