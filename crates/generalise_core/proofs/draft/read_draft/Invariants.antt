use Rattle.std.proofs.Common.{◌↔◌, ◌-◌, ◌≤◌, length, drop}
use Rattle.generalise_core.specs.Words.{Draft, Says, empty_draft}
use Rattle.generalise_core.proofs.draft.read_draft.Given as goal

abbrev pub invariant-loop-at : goal.invariant-loop-at
invariant-loop-at l = record {
  within : l.at ≤ length l.fn.words;
  same : (all : Draft) → Says l.draft (drop l.at l.fn.words) all ↔ Says empty_draft (drop 1 l.fn.words) all;
}

abbrev pub decreases-loop-at : goal.decreases-loop-at
decreases-loop-at l = length l.fn.words - l.at
