use Rattle.agg_model.proofs.RunLemmas.{IsTallied}
use Rattle.agg_model.proofs.tallies.tally_of.Given as goal

abbrev pub invariant-loop-end : goal.invariant-loop-end
invariant-loop-end l = IsTallied l.problem l.grouping l.areas l.region l.start l.end l.owned l.weight
