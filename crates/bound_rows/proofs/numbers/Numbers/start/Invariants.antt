use Rattle.std.proofs.Common.{◌≡◌, ◌+◌, ◌*◌, ◌<◌, ℕ, pos, length}
use Rattle.std.specs.Prelude.{◌*ℤ◌, slice_index_or}
use Rattle.agg_model.specs.Problem.{areas, recolouring}
use Rattle.row_laws.specs.Values.{bordering}
use Rattle.bound_rows.specs.Scratch.{HasRoom}
use Rattle.bound_rows.proofs.numbers.Numbers.start.Given as goal

abbrev pub invariant-loop-area : goal.invariant-loop-area
invariant-loop-area l =
    HasRoom l.problem l.self × ((v k : ℕ) → v < l.area → k < l.problem.classes → slice_index_or l.self.choices (v * l.problem.classes + k) (pos 0) ≡ pos l.factor *ℤ recolouring l.problem v k)

abbrev pub invariant-loop-link : goal.invariant-loop-link
invariant-loop-link l =
    (length l.self-inside.choices.items ≡ areas l.problem * l.problem.classes) × (length l.self-inside.links.items ≡ length l.problem.links) × ((v k : ℕ) → v < areas l.problem → k < l.problem.classes → slice_index_or l.self-inside.choices.items (v * l.problem.classes + k) (pos 0) ≡ pos l.factor *ℤ recolouring l.problem v k) × ((m : ℕ) → m < l.link → slice_index_or l.self-inside.links.items m (pos 0) ≡ pos l.factor *ℤ bordering l.problem m)
