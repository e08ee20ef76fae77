use Rattle.std.proofs.Common.{take}
use Rattle.std.specs.Prelude.{Some}
use Rattle.agg_base.specs.Lists.{lists_of}
use Rattle.json_text.specs.Values.{list_of}
use Rattle.plane_edge.specs.Paths.{AreJoined}
use Rattle.topo_reader.specs.Indexes.{OfRing, paths_told}
use Rattle.topo_reader.proofs.paths.is_closed.Given as goal

abbrev pub invariant-loop-index : goal.invariant-loop-index
invariant-loop-index l = OfRing (list_of l.ring) (λ wholes. AreJoined (Some l.begin) (paths_told (lists_of l.arcs) (take l.index-index wholes)) (Some l.at))
