use Rattle.std.proofs.Common.{ℕ, ◌≡◌, ◌<◌}
use Rattle.std.specs.Prelude.{slice_index}
use Rattle.union_find.specs.Steps.{LeadsDown, IsForest}
use Rattle.union_find.proofs.steps.flatten.Given as goal

abbrev pub invariant-loop-member : goal.invariant-loop-member
invariant-loop-member l =
    LeadsDown l.above × ((label_of : ℕ → ℕ) → IsForest label_of l.fn.above → IsForest label_of l.above × ((k : ℕ) → k < l.member → slice_index l.above k ≡ label_of k))
