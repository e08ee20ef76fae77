use Rattle.std.proofs.Common.{subst, List}
use Rattle.plane_edge.specs.declared.point.Point.{Point}
use Rattle.ring_arcs.specs.Breaks.{IsBroken}
use Rattle.ring_arcs.specs.Chains.{IsCovered, AddsArcs}
use Rattle.agg_base.specs.Lists.{lists_of}
use Rattle.ring_arcs.proofs.GatherLemmas.{gathered_step, one_of_rings}
use Rattle.ring_arcs.proofs.arcs.gather.Goals as goal

pub push_arcs-requires-clause-broken : goal.push_arcs-requires-clause-broken
push_arcs-requires-clause-broken c =
    one_of_rings (IsBroken c.args.breaks.now.ways.items c.args.breaks.now.loops.items) c.args.rings.now c.loop-ring.ring-index c.ring-item.result c.deref.result.now c.requires.broken c.loop-ring-test.true c.ring-item.is c.deref.ensures.value

pub push_arcs-requires-clause-covered : goal.push_arcs-requires-clause-covered
push_arcs-requires-clause-covered c =
    one_of_rings (IsCovered c.args.breaks.now.ways.items) c.args.rings.now c.loop-ring.ring-index c.ring-item.result c.deref.result.now c.requires.covered c.loop-ring-test.true c.ring-item.is c.deref.ensures.value

pub loop-ring-preserved : goal.loop-ring-preserved
loop-ring-preserved c =
    let ways = c.args.breaks.now.ways.items in
    let loops = c.args.breaks.now.loops.items in
    let old = lists_of c.loop-ring.arcs.items in
    let new = lists_of c.push_arcs.new.arcs.items in
    let added = subst (λ (ring : List Point). AddsArcs ways loops ring old new) c.deref.ensures.value c.in_ok-push_arcs.ensures in
    gathered_step ways loops c.args.rings.now c.loop-ring.ring-index c.ring-item.result old new c.loop-ring-test.true c.ring-item.is c.requires.symmetric added c.loop-ring.invariant
