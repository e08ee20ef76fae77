use Rattle.std.proofs.Common.{◌≡◌, ℕ, List, length}
use Rattle.union_find.specs.Sets.{AreSets}
use Rattle.agg_model.specs.Problem.{areas}
use Rattle.agg_model.proofs.PartLemmas.{AreLinkPairs}
use Rattle.agg_model.proofs.part_sets.join_links.Given as goal

abbrev pub invariant-loop-link : goal.invariant-loop-link
invariant-loop-link l = record {
  members : length l.forest ≡ areas l.problem;
  sets : (pairs : List (ℕ × ℕ)) × AreLinkPairs l.problem l.link pairs × AreSets pairs l.forest;
}
