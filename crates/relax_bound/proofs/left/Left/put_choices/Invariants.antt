use Rattle.std.proofs.Common.{◌≡◌, ◌<◌, ℕ}
use Rattle.agg_model.specs.Problem.{recolouring}
use Rattle.bound_rows.specs.Scratch.{HasRoom}
use Rattle.relax_bound.specs.Levels.{numbers_of, number}
use Rattle.relax_bound.proofs.left.Left.put_choices.Given as goal

abbrev pub invariant-loop-class : goal.invariant-loop-class
invariant-loop-class l =
    HasRoom l.problem (numbers_of l.self) × ((k : ℕ) → k < l.class → number l.problem (numbers_of l.self) l.area k ≡ recolouring l.problem l.area k) × ((v k : ℕ) → v < l.area → k < l.problem.classes → number l.problem (numbers_of l.self) v k ≡ number l.problem (numbers_of l.fn.self) v k)
