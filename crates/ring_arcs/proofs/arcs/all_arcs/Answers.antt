use Rattle.agg_base.specs.Lists.{lists_of}
use Rattle.ring_arcs.specs.Rings.{steps_of_rings}
use Rattle.ring_arcs.proofs.GatherLemmas.{all_covered, stored_from_gathered}
use Rattle.ring_arcs.proofs.WayLemmas.{symmetric_ways}
use Rattle.ring_arcs.proofs.arcs.all_arcs.Goals as goal

pub gather-requires-clause-covered : goal.gather-requires-clause-covered
gather-requires-clause-covered c = all_covered c.args.rings.now c.args.breaks.now.ways.items c.requires.ways

pub gather-requires-clause-symmetric : goal.gather-requires-clause-symmetric
gather-requires-clause-symmetric c = symmetric_ways (steps_of_rings (lists_of c.args.rings.now)) c.args.breaks.now.ways.items c.requires.ways

pub returns : goal.returns
returns c =
    stored_from_gathered c.args.breaks.now.ways.items c.args.breaks.now.loops.items (lists_of c.args.rings.now) (lists_of c.in_ok-arcs.arcs.items) (lists_of c.sort_distinct.new.arcs.items)
    c.requires.ways c.sort_distinct.ensures.rising c.sort_distinct.ensures.same c.in_ok-arcs.ensures
