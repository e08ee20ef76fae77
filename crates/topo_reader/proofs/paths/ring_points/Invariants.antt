use Rattle.std.proofs.Common.{◌≡◌, ◌++◌, take, drop, flat_map}
use Rattle.agg_base.specs.Lists.{lists_of}
use Rattle.json_text.specs.Values.{list_of}
use Rattle.topo_reader.specs.Indexes.{OfRing, front_of, paths_told}
use Rattle.topo_reader.proofs.paths.ring_points.Given as goal

abbrev pub invariant-loop-index : goal.invariant-loop-index
invariant-loop-index l = OfRing (list_of l.ring) (λ wholes. l.points.items ≡ front_of (paths_told (lists_of l.arcs) wholes) ++ flat_map (drop 1) (paths_told (lists_of l.arcs) (take l.index-index wholes)))
