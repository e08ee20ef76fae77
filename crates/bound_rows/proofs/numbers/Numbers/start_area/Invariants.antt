use Rattle.std.proofs.Common.{◌≡◌, ◌+◌, ◌*◌, ◌<◌, ℕ, pos, length}
use Rattle.std.specs.Prelude.{◌*ℤ◌, slice_index_or}
use Rattle.agg_model.specs.Problem.{areas, recolouring}
use Rattle.bound_rows.proofs.numbers.Numbers.start_area.Given as goal

abbrev pub invariant-loop-class : goal.invariant-loop-class
invariant-loop-class l =
    (length l.self-inside.choices.items ≡ areas l.problem * l.problem.classes) × (length l.self-inside.links.items ≡ length l.problem.links) × ((k : ℕ) → k < l.class → slice_index_or l.self-inside.choices.items (l.area * l.problem.classes + k) (pos 0) ≡ pos l.factor *ℤ recolouring l.problem l.area k) × ((v k : ℕ) → v < l.area → k < l.problem.classes → slice_index_or l.self-inside.choices.items (v * l.problem.classes + k) (pos 0) ≡ slice_index_or l.fn.self.choices (v * l.problem.classes + k) (pos 0))
