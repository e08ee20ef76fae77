use Rattle.std.proofs.Common.{◌≡◌, ◌<◌, ℕ, ℤ, true, take}
use Rattle.agg_model.specs.Problem.{areas}
use Rattle.row_laws.specs.Rows.{Place, is_in}
use Rattle.bound_rows.specs.Scratch.{IsAt, has_mark}
use Rattle.bound_rows.specs.Scratches.{IsScratchFor}
use Rattle.bound_rows.specs.Escapes.{IsTaken, HasSeen, AreSoundMarks, counted}
use Rattle.bound_rows.proofs.scratch.Scratch.take_neighbours.Given as goal

abbrev pub invariant-loop-area : goal.invariant-loop-area
invariant-loop-area l =
    IsScratchFor l.problem l.self × (l.self.ways ≡ l.fn.self.ways) × ((v : ℕ) → v < areas l.problem → is_in l.set v ≡ true → has_mark l.self.marks v ≡ true) × AreSoundMarks l.problem l.set l.self.marks × ((u : ℕ) → is_in (take l.area-index l.set) u ≡ true → HasSeen l.problem u 0 l.self.marks) × ((f : Place → ℤ) → IsAt l.problem f l.fn.self.numbers → IsTaken l.problem f l.class l.amount (counted l.set l.self.marks) l.worst l.self.numbers)
