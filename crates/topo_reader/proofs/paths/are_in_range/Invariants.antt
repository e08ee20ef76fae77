use Rattle.std.proofs.Common.{take}
use Rattle.json_text.specs.Values.{list_of}
use Rattle.topo_reader.specs.Indexes.{OfRing, AreInRange}
use Rattle.topo_reader.proofs.paths.are_in_range.Given as goal

abbrev pub invariant-loop-index : goal.invariant-loop-index
invariant-loop-index l = OfRing (list_of l.ring) (λ wholes. AreInRange l.count (take l.index-index wholes))
