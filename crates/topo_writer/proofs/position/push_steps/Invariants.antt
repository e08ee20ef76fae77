use Rattle.std.proofs.Common.{◌≡◌, ◌++◌, ◌∷◌, flat_map, drop}
use Rattle.topo_writer.specs.MapText.{steps_from, position_text}
use Rattle.topo_writer.proofs.position.push_steps.Given as goal

abbrev pub invariant-loop-point : goal.invariant-loop-point
invariant-loop-point l =
    l.out.items ++ flat_map (λ s. 44 ∷ position_text s) (steps_from l.is_relative l.before (drop l.point-index l.rest)) ≡ l.initial.out.items ++ flat_map (λ s. 44 ∷ position_text s) (steps_from l.is_relative l.fn.first l.rest)
