use Rattle.ring_arcs.specs.Breaks.{IsBroken}
use Rattle.ring_arcs.specs.Chains.{IsCovered}
use Rattle.agg_base.specs.Lists.{lists_of}
use Rattle.ring_arcs.proofs.GatherLemmas.{one_of_rings}
use Rattle.ring_arcs.proofs.NumberLemmas.{indexed_more}
use Rattle.ring_arcs.proofs.arcs.all_indexes.Goals as goal

pub indexes_of-requires-clause-broken : goal.indexes_of-requires-clause-broken
indexes_of-requires-clause-broken c =
    one_of_rings (IsBroken c.args.breaks.now.ways.items c.args.breaks.now.loops.items) c.args.rings.now c.loop-ring.ring-index c.ring-item.result c.deref.result.now c.requires.broken c.loop-ring-test.true c.ring-item.is c.deref.ensures.value

pub indexes_of-requires-clause-covered : goal.indexes_of-requires-clause-covered
indexes_of-requires-clause-covered c =
    one_of_rings (IsCovered c.args.breaks.now.ways.items) c.args.rings.now c.loop-ring.ring-index c.ring-item.result c.deref.result.now c.requires.covered c.loop-ring-test.true c.ring-item.is c.deref.ensures.value

pub loop-ring-preserved : goal.loop-ring-preserved
loop-ring-preserved c =
    indexed_more (lists_of c.args.arcs.now) c.args.rings.now c.loop-ring.ring-index c.ring-item.result c.deref.result.now c.loop-ring.indexes.items c.in_ok-indexes_of.field-0 c.push.new.self.items
    c.loop-ring-test.true c.ring-item.is c.deref.ensures.value c.in_ok-push.ensures.items c.in_ok-indexes_of.ensures c.loop-ring.invariant
