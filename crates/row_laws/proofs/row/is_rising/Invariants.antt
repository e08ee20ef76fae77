use Rattle.std.proofs.Common.{ℕ, ◌<◌, ◌≤◌}
use Rattle.std.specs.Prelude.{slice_index}
use Rattle.row_laws.proofs.row.is_rising.Given as goal

abbrev pub invariant-loop-at : goal.invariant-loop-at
invariant-loop-at l = (1 ≤ l.at) × ((i j : ℕ) → i < j → j < l.at → slice_index l.areas i < slice_index l.areas j)
