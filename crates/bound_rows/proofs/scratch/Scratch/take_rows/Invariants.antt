use Rattle.std.proofs.Common.{◌≡◌, ℤ, Ok, take}
use Rattle.row_laws.specs.Rows.{Place}
use Rattle.row_laws.specs.Values.{moves}
use Rattle.row_laws.specs.Exact.{run}
use Rattle.bound_rows.specs.Scratch.{IsAt, IsRun}
use Rattle.bound_rows.specs.Scratches.{IsScratchFor}
use Rattle.bound_rows.proofs.scratch.Scratch.take_rows.Given as goal

abbrev pub invariant-loop-row : goal.invariant-loop-row
invariant-loop-row l =
    IsScratchFor l.problem l.self × (l.self.ways ≡ l.fn.self.ways) × ((f : Place → ℤ) → IsAt l.problem f l.fn.self.numbers → IsRun l.problem (run f (moves l.problem (take l.row-index l.rows))) (Ok tt) l.self.numbers)
