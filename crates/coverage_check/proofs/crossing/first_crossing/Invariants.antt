use Rattle.std.proofs.Common.{ℕ, ◌<◌, length}
use Rattle.coverage_check.specs.Partners.{MeetsNone}
use Rattle.coverage_check.proofs.crossing.first_crossing.Given as goal

abbrev pub invariant-loop-at : goal.invariant-loop-at
invariant-loop-at l = (k : ℕ) → k < l.at → MeetsNone l.edges k (length l.edges)
