use Rattle.std.proofs.Common.{◌<◌, ℤ, sym, subst, List, length, Vec, Global}
use Rattle.plane_edge.specs.declared.point.Point.{Point}
use Rattle.ring_arcs.specs.Numbers.{IsLeastAt, IsStoredIn}
use Rattle.ring_arcs.specs.RingArcs.{AreIndexesOf}
use Rattle.agg_base.specs.Lists.{lists_of}
use Rattle.ring_arcs.proofs.Counts.{all_from_map}
use Rattle.ring_arcs.proofs.GatherLemmas.{chains_long}
use Rattle.ring_arcs.proofs.NumberLemmas.{stored_chains, some_chain, some_index, indexes_on}
use Rattle.ring_arcs.proofs.numbers.indexes_of.Goals as goal

pub indexes_of_chains-requires-clause-stored : goal.indexes_of_chains-requires-clause-stored
indexes_of_chains-requires-clause-stored c =
    let arcs = lists_of c.args.arcs.now in
    let chains = c.in_ok-chains.chains.items in
    let stored = stored_chains c.args.breaks.now.ways.items c.args.breaks.now.loops.items c.args.ring.now arcs (lists_of chains) c.requires.symmetric c.requires.stored c.in_ok-chains.ensures in
    all_from_map (IsStoredIn arcs) (λ (v : Vec Point Global). v.items) chains stored

pub least_at-least-requires : goal.least_at-least-requires
least_at-least-requires c =
    let arcs = lists_of c.args.arcs.now in
    let chains = lists_of c.in_ok-chains.chains.items in
    let some = some_chain c.args.breaks.now.ways.items c.args.breaks.now.loops.items c.args.ring.now chains c.requires.ring c.in_ok-chains.ensures in
    let told = c.in_ok-indexes.ensures.told in
    subst (λ (is : List ℤ). 0 < length is) (sym c.deref.ensures.value) (some_index arcs c.in_ok-indexes.indexes.items chains told some)

pub returns : goal.returns
returns c =
    let arcs = lists_of c.args.arcs.now in
    let chains = lists_of c.in_ok-chains.chains.items in
    let indexes = c.in_ok-indexes.indexes.items in
    let at = c.least_at-least.result in
    let told = c.in_ok-indexes.ensures.told in
    let within = subst (λ (is : List ℤ). at < length is) c.deref.ensures.value c.least_at-least.ensures.within in
    let least = subst (λ (is : List ℤ). IsLeastAt is (length is) at) c.deref.ensures.value c.least_at-least.ensures.least in
    let long = chains_long c.args.breaks.now.ways.items c.args.breaks.now.loops.items c.args.ring.now chains c.in_ok-chains.ensures in
    subst (AreIndexesOf arcs c.args.ring.now) (sym c.rotate_left.ensures.items) (indexes_on arcs c.args.ring.now indexes chains at within least c.in_ok-indexes.ensures.in_range told long c.in_ok-chains.ensures.walk)
