use Rattle.std.proofs.Common.{◌∙◌, refl, ap, flat_map, List}
use Rattle.std.specs.Prelude.{Vec}
use Rattle.std.specs.declared.alloc.Global.{Global}
use Rattle.agg_base.specs.Lists.{lists_of}
use Rattle.json_text.proofs.Cases.{false_true}
use Rattle.plane_edge.specs.Rings.{steps_of_ring}
use Rattle.plane_edge.specs.declared.point.Point.{Point}
use Rattle.topo_reader.specs.Indexes.{rings_in, rings_along}
use Rattle.topo_reader.proofs.AreaLemmas.{few_lists, all_within, some_out_of_range, index_fault, open_fault, many_fault, long_fault, area_found, long_as, measured_as}
use Rattle.topo_reader.proofs.WholeLemmas.{ring_wholes}
use Rattle.topo_reader.proofs.place.rings_area.Goals as goal

pub returns-then-not-are_indexes-clause-fault : goal.returns-then-not-are_indexes-clause-fault
returns-then-not-are_indexes-clause-fault c = λ arcs texts s is.
    let ws = ring_wholes (rings_in c.args.rings.now) texts is in
    index_fault (lists_of c.args.arcs.now) ws.0 c.args.at c.args.steps (few_lists c.args.arcs.now c.requires.few_arcs) (some_out_of_range c.args.arcs.now ws.0 (λ all. false_true ((c.if-not-are_indexes.ensures ws.0 ws.2).1 all))) arcs texts s ws.1

pub returns-then-not-are_closed-clause-fault : goal.returns-then-not-are_closed-clause-fault
returns-then-not-are_closed-clause-fault c = λ arcs texts s is.
    let ws = ring_wholes (rings_in c.args.rings.now) texts is in
    open_fault (lists_of c.args.arcs.now) ws.0 c.args.at c.args.steps (few_lists c.args.arcs.now c.requires.few_arcs) (all_within c.args.arcs.now ws.0 ((c.if-not-are_indexes.ensures ws.0 ws.2).0 refl))
    (λ all. false_true ((c.if-not-are_closed.ensures ws.0 ws.2).1 all)) arcs texts s ws.1

pub returns-then-not-have_few_steps-clause-fault : goal.returns-then-not-have_few_steps-clause-fault
returns-then-not-have_few_steps-clause-fault c = λ arcs texts s is.
    let ws = ring_wholes (rings_in c.args.rings.now) texts is in
    many_fault (lists_of c.args.arcs.now) ws.0 c.args.at c.args.steps (all_within c.args.arcs.now ws.0 ((c.if-not-are_indexes.ensures ws.0 ws.2).0 refl)) ((c.if-not-are_closed.ensures ws.0 ws.2).0 refl) c.requires.few_steps
    (λ few. false_true ((c.if-not-have_few_steps.ensures ws.0 ws.2).1 few)) arcs texts s ws.1

pub returns-in_default-clause-fault : goal.returns-in_default-clause-fault
returns-in_default-clause-fault c = λ arcs texts s is.
    let ws = ring_wholes (rings_in c.args.rings.now) texts is in
    let thins = lists_of c.args.arcs.now in
    let same = ap (λ (vs : List (Vec Point Global)). flat_map steps_of_ring (lists_of vs)) c.deref.ensures.value ∙ c.in_ok-points.ensures ws.0 ws.2 in
    long_fault thins ws.0 c.args.at c.args.steps (all_within c.args.arcs.now ws.0 ((c.if-not-are_indexes.ensures ws.0 ws.2).0 refl)) ((c.if-not-are_closed.ensures ws.0 ws.2).0 refl)
    (long_as (lists_of c.deref.result.now) (rings_along thins ws.0) c.args.steps same (rw c.in_default.is at c.in_ok-area.ensures.none)) arcs texts s ws.1

pub returns-clause-found : goal.returns-clause-found
returns-clause-found c = λ arcs texts s is.
    let ws = ring_wholes (rings_in c.args.rings.now) texts is in
    let thins = lists_of c.args.arcs.now in
    let same = ap (λ (vs : List (Vec Point Global)). flat_map steps_of_ring (lists_of vs)) c.deref.ensures.value ∙ c.in_ok-points.ensures ws.0 ws.2 in
    area_found thins ws.0 c.args.class c.args.steps c.in-Some.area (all_within c.args.arcs.now ws.0 ((c.if-not-are_indexes.ensures ws.0 ws.2).0 refl)) ((c.if-not-are_closed.ensures ws.0 ws.2).0 refl)
    (measured_as c.args.class (lists_of c.deref.result.now) (rings_along thins ws.0) c.args.steps c.in-Some.area same (rw c.in-Some.is at c.in_ok-area.ensures.found)) arcs texts s ws.1
