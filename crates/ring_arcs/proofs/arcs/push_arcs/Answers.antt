use Rattle.std.proofs.Common.{◌≤◌, List, length, Vec, Global}
use Rattle.plane_edge.specs.declared.point.Point.{Point}
use Rattle.agg_base.specs.Lists.{lists_of}
use Rattle.ring_arcs.proofs.Counts.{all_from_map}
use Rattle.ring_arcs.proofs.GatherLemmas.{chains_long}
use Rattle.ring_arcs.proofs.arcs.push_arcs.Goals as goal

pub push_stored-requires : goal.push_stored-requires
push_stored-requires c =
    let chains = c.in_ok-chains.chains.items in
    let long = chains_long c.args.breaks.now.ways.items c.args.breaks.now.loops.items c.args.ring.now (lists_of chains) c.in_ok-chains.ensures in
    all_from_map (λ (p : List Point). 2 ≤ length p) (λ (v : Vec Point Global). v.items) chains long
