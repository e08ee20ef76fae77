use Rattle.std.proofs.Common.{◌≡◌, ℕ, List, length}
use Rattle.union_find.specs.Sets.{AreSets}
use Rattle.agg_model.specs.Problem.{areas}
use Rattle.agg_model.proofs.HeadLemmas.{AreInnerPairs}
use Rattle.agg_model.proofs.tops.join_inside.Given as goal

abbrev pub invariant-loop-link : goal.invariant-loop-link
invariant-loop-link l = record {
  members : length l.forest ≡ areas l.problem;
  sets : (pairs : List (ℕ × ℕ)) × AreInnerPairs l.problem l.grouping l.link pairs × AreSets pairs l.forest;
}
