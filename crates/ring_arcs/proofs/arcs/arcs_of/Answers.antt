use Rattle.agg_base.specs.Lists.{lists_of}
use Rattle.ring_arcs.specs.Rings.{steps_of_rings}
use Rattle.ring_arcs.proofs.GatherLemmas.{all_covered}
use Rattle.ring_arcs.proofs.StoreLemmas.{arcs_of_stored}
use Rattle.ring_arcs.proofs.WayLemmas.{symmetric_ways}
use Rattle.ring_arcs.proofs.arcs.arcs_of.Goals as goal

pub all_indexes-requires-clause-covered : goal.all_indexes-requires-clause-covered
all_indexes-requires-clause-covered c = all_covered c.args.rings.now c.in_ok-breaks.breaks.ways.items c.in_ok-breaks.ensures.ways

pub all_indexes-requires-clause-symmetric : goal.all_indexes-requires-clause-symmetric
all_indexes-requires-clause-symmetric c = symmetric_ways (steps_of_rings (lists_of c.args.rings.now)) c.in_ok-breaks.breaks.ways.items c.in_ok-breaks.ensures.ways

pub returns-clause-arcs : goal.returns-clause-arcs
returns-clause-arcs c =
    arcs_of_stored (lists_of c.args.rings.now) (lists_of c.in_ok-arcs.arcs.items) c.in_ok-breaks.breaks.ways.items c.in_ok-breaks.breaks.loops.items c.in_ok-breaks.ensures.ways c.in_ok-arcs.ensures
