use Rattle.std.proofs.Common.{ℕ, Bool, List, sym, subst, arith}
use Rattle.std.specs.Prelude.{Vec}
use Rattle.std.specs.declared.alloc.Global.{Global}
use Rattle.agg_base.specs.Lists.{lists_of}
use Rattle.agg_base.specs.declared.limits.TheConstants.{TEXT_BYTES}
use Rattle.json_text.specs.Values.{json_of, list_of}
use Rattle.plane_edge.specs.declared.point.Point.{Point}
use Rattle.topo_reader.specs.Faults.{Head, IsFaultOf}
use Rattle.topo_reader.proofs.AreaLemmas.{err_from}
use Rattle.topo_reader.proofs.ReadLemmas.{AreArcs, parts_within, places_within, no_places, place_fault}
use Rattle.topo_reader.proofs.TreeLists.{listed_within}
use Rattle.topo_reader.proofs.reader.read_layer.Goals as goal

pub read_arcs-requires : goal.read_arcs-requires
read_arcs-requires c =
    let head : Head = record { objects = json_of c.in-Some.objects.now; parts = list_of c.in-Some.parts.now; frame = c.in-Some.frame } in
    listed_within c.in-Some.parts.now TEXT_BYTES (parts_within TEXT_BYTES (json_of c.args.tree.now) head c.requires (rw c.in-Some.is at c.in_ok-head.ensures.found))

pub returns-in_default-places-clause-fault : goal.returns-in_default-places-clause-fault
returns-in_default-places-clause-fault c =
    let head : Head = record { objects = json_of c.in-Some.objects.now; parts = list_of c.in-Some.parts.now; frame = c.in-Some.frame } in
    let arcs = subst (λ (b : Bool). AreArcs b (list_of c.in-Some.parts.now) (lists_of c.in_ok-arcs.arcs.items)) c.is_relative.ensures c.in_ok-arcs.ensures.found in
    no_places (json_of c.args.tree.now) c.args.pick.now.class c.args.pick.now.object head (json_of c.in-Some-object_of.object.now) (lists_of c.in_ok-arcs.arcs.items) (rw c.in-Some.is at c.in_ok-head.ensures.found) c.in-Some-object_of.ensures.found arcs c.in_default-places.ensures.none

pub read_places-requires-clause-few_places : goal.read_places-requires-clause-few_places
read_places-requires-clause-few_places c =
    let head : Head = record { objects = json_of c.in-Some.objects.now; parts = list_of c.in-Some.parts.now; frame = c.in-Some.frame } in
    listed_within c.in-Some-places.places.now TEXT_BYTES
    (places_within TEXT_BYTES (json_of c.args.tree.now) head c.args.pick.now.object (json_of c.in-Some-object_of.object.now) (list_of c.in-Some-places.places.now) (omega arith) c.requires (rw c.in-Some.is at c.in_ok-head.ensures.found) c.in-Some-object_of.ensures.found
    c.in-Some-places.ensures.found)

pub returns-in_err-areas-clause-fault : goal.returns-in_err-areas-clause-fault
returns-in_err-areas-clause-fault c =
    let head : Head = record { objects = json_of c.in-Some.objects.now; parts = list_of c.in-Some.parts.now; frame = c.in-Some.frame } in
    let tree = json_of c.args.tree.now in
    let named = c.args.pick.now.object in
    let parts = list_of c.in-Some.parts.now in
    let fault = c.in_err-areas.field-0.0 in
    let arcs = subst (λ (vs : List (Vec Point Global)). AreArcs c.is_relative.result parts (lists_of vs)) (sym c.deref.ensures.value) c.in_ok-arcs.ensures.found in
    let held = subst (λ (b : Bool). AreArcs b parts (lists_of c.deref.result.now)) c.is_relative.ensures arcs in
    err_from c.from_residual-in_err-areas.result fault (λ f. IsFaultOf tree c.args.pick.now.class named f) c.from_residual-in_err-areas.ensures.1
    (subst (λ (class : List ℕ). IsFaultOf tree class named fault) c.as_str.ensures
    (place_fault tree c.as_str.result.now named head (json_of c.in-Some-object_of.object.now) (lists_of c.deref.result.now) (list_of c.in-Some-places.places.now) fault (rw c.in-Some.is at c.in_ok-head.ensures.found) c.in-Some-object_of.ensures.found held c.in-Some-places.ensures.found
    c.in_err-areas.ensures.fault))
