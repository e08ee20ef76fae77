use Rattle.std.proofs.Common.{◌≡◌, ◌<◌, ℕ}
use Rattle.agg_model.specs.Problem.{recolouring}
use Rattle.bound_rows.specs.Scratch.{HasRoom}
use Rattle.relax_bound.specs.Levels.{numbers_of, number}
use Rattle.relax_bound.proofs.left.Left.new.Given as goal

abbrev pub invariant-loop-area : goal.invariant-loop-area
invariant-loop-area l =
    HasRoom l.problem (numbers_of l.left) × ((v k : ℕ) → v < l.area → k < l.problem.classes → number l.problem (numbers_of l.left) v k ≡ recolouring l.problem v k)
