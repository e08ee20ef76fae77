use Rattle.std.proofs.Common.{take}
use Rattle.std.specs.List.{AllByRecursion}
use Rattle.agg_base.specs.Lists.{lists_of}
use Rattle.topo_reader.specs.Indexes.{rings_in, OfRings, CanClose}
use Rattle.topo_reader.proofs.paths.are_closed.Given as goal

abbrev pub invariant-loop-ring : goal.invariant-loop-ring
invariant-loop-ring l = OfRings (rings_in l.rings) (λ wholes. AllByRecursion (CanClose (lists_of l.arcs)) (take l.ring-index wholes))
