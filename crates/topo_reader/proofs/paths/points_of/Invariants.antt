use Rattle.std.proofs.Common.{◌≡◌, take, flat_map}
use Rattle.agg_base.specs.Lists.{lists_of}
use Rattle.plane_edge.specs.Rings.{steps_of_ring}
use Rattle.topo_reader.specs.Indexes.{rings_in, OfRings, rings_along}
use Rattle.topo_reader.proofs.paths.points_of.Given as goal

abbrev pub invariant-loop-ring : goal.invariant-loop-ring
invariant-loop-ring l = OfRings (rings_in l.rings) (λ wholes. flat_map steps_of_ring (lists_of l.all.items) ≡ flat_map steps_of_ring (rings_along (lists_of l.arcs) (take l.ring-index wholes)))
