use Rattle.std.proofs.Common.{◌≡◌, map, flat_map, take}
use Rattle.plane_edge.specs.Rings.{ends_of, steps_of_ring}
use Rattle.plane_edge.proofs.rings.steps_of_rings.Given as goal

abbrev pub invariant-loop-ring : goal.invariant-loop-ring
invariant-loop-ring l = map ends_of l.steps.items ≡ flat_map (λ ring. steps_of_ring ring.items) (take l.ring-index l.rings)
