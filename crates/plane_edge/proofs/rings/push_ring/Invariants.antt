use Rattle.std.proofs.Common.{◌≡◌, ◌++◌, map, drop, ◌∷◌, []}
use Rattle.plane_edge.specs.Rings.{ends_of, path_from}
use Rattle.plane_edge.proofs.rings.push_ring.Given as goal

abbrev pub invariant-loop-to : goal.invariant-loop-to
invariant-loop-to l =
    map ends_of l.steps.items ++ path_from l.from (drop l.to-index l.rest ++ l.first ∷ []) ≡ map ends_of l.initial.steps.items ++ path_from l.first (l.rest ++ l.first ∷ [])
