use Rattle.std.proofs.Common.{take}
use Rattle.std.specs.List.{AllByRecursion}
use Rattle.topo_reader.specs.Indexes.{rings_in, OfRings, AreInRange}
use Rattle.topo_reader.proofs.paths.are_indexes.Given as goal

abbrev pub invariant-loop-ring : goal.invariant-loop-ring
invariant-loop-ring l = OfRings (rings_in l.rings) (λ wholes. AllByRecursion (AreInRange l.count) (take l.ring-index wholes))
