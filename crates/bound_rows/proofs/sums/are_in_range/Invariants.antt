use Rattle.std.proofs.Common.{◌<◌, ℕ}
use Rattle.std.specs.Prelude.{slice_index}
use Rattle.agg_model.specs.Problem.{areas}
use Rattle.bound_rows.proofs.sums.are_in_range.Given as goal

abbrev pub invariant-loop-area : goal.invariant-loop-area
invariant-loop-area l = (i : ℕ) → i < l.area-index → slice_index l.set i < areas l.problem
