use Rattle.std.proofs.Common.{◌≡◌, ◌<◌, ℕ, take}
use Rattle.agg_model.specs.Problem.{areas}
use Rattle.row_laws.specs.Rows.{is_in}
use Rattle.bound_rows.specs.Scratch.{AreMarks, has_mark}
use Rattle.bound_rows.proofs.scratch.mark_members.Given as goal

abbrev pub invariant-loop-area : goal.invariant-loop-area
invariant-loop-area l =
    AreMarks (areas l.problem) l.marks × ((v : ℕ) → v < areas l.problem → has_mark l.marks v ≡ is_in (take l.area-index l.set) v)
