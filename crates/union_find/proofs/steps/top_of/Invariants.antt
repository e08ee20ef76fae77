use Rattle.std.proofs.Common.{ℕ, ◌≡◌, ◌<◌, length}
use Rattle.union_find.specs.Steps.{LeadsDown, IsForest}
use Rattle.union_find.proofs.steps.top_of.Given as goal

abbrev pub invariant-loop-at : goal.invariant-loop-at
invariant-loop-at l =
    LeadsDown l.above × (l.at < length l.above) × ((label_of : ℕ → ℕ) → IsForest label_of l.fn.above → IsForest label_of l.above × (label_of l.at ≡ label_of l.fn.member))

abbrev pub decreases-loop-at : goal.decreases-loop-at
decreases-loop-at l = l.at
