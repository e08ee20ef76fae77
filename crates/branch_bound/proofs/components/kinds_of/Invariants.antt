use Rattle.std.proofs.Common.{◌≡◌, ℕ, ◌<◌, true, length}
use Rattle.std.specs.Prelude.{slice_index}
use Rattle.bound_rows.specs.Domains.{allows}
use Rattle.branch_bound.proofs.components.kinds_of.Given as goal

abbrev pub invariant-loop-area : goal.invariant-loop-area
invariant-loop-area l = record {
  long : length l.kinds.items ≡ l.area;
  allowed : (v : ℕ) → v < l.area → allows l.domains v (slice_index l.kinds.items v) ≡ true;
  below : (v : ℕ) → v < l.area → slice_index l.kinds.items v < l.problem.classes;
}
