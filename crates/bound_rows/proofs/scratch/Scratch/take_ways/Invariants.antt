use Rattle.std.proofs.Common.{◌≡◌, ◌≢◌, ◌-◌, ◌*◌, ◌<◌, ◌≤◌, ℕ, ℤ, true, length}
use Rattle.agg_model.specs.Problem.{areas}
use Rattle.row_laws.specs.Rows.{Place}
use Rattle.bound_rows.specs.Scratch.{has_mark, way_from}
use Rattle.bound_rows.specs.Scratches.{IsScratchFor}
use Rattle.bound_rows.specs.Escapes.{IsTaken, HasSeen, AreSoundMarks, counted}
use Rattle.bound_rows.proofs.scratch.Scratch.take_ways.Given as goal

abbrev pub invariant-loop-lead : goal.invariant-loop-lead
invariant-loop-lead l =
    IsScratchFor l.problem l.self × (l.self.ways ≡ l.fn.self.ways) × (l.lead ≤ 2 * length l.problem.links) × (l.lead ≢ 0 → way_from l.problem (l.lead - 1) ≡ l.member) × HasSeen l.problem l.member l.lead l.self.marks × ((v : ℕ) → v < areas l.problem → has_mark l.fn.self.marks v ≡ true → has_mark l.self.marks v ≡ true) × (AreSoundMarks l.problem l.set l.fn.self.marks → AreSoundMarks l.problem l.set l.self.marks) × ((f : Place → ℤ) → IsTaken l.problem f l.class l.amount (counted l.set l.fn.self.marks) l.fn.worst l.fn.self.numbers → IsTaken l.problem f l.class l.amount (counted l.set l.self.marks) l.worst l.self.numbers)

abbrev pub decreases-loop-lead : goal.decreases-loop-lead
decreases-loop-lead l = l.lead
