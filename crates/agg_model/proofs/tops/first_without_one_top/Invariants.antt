use Rattle.agg_model.proofs.HeadLemmas.{IsUpTo}
use Rattle.agg_model.proofs.tops.first_without_one_top.Given as goal

abbrev pub invariant-loop-region : goal.invariant-loop-region
invariant-loop-region l = IsUpTo l.grouping l.tops l.region
