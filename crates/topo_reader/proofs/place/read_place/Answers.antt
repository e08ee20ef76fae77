use Rattle.std.proofs.Common.{◌<◌, ◌∙◌, ap, arith}
use Rattle.agg_base.specs.Lists.{lists_of}
use Rattle.agg_base.specs.declared.limits.TheConstants.{AREAS}
use Rattle.json_text.specs.Values.{json_of}
use Rattle.topo_reader.specs.Indexes.{rings_in}
use Rattle.topo_reader.specs.PlaceFaults.{BreaksPlace, IsAreaBehind}
use Rattle.topo_reader.specs.RingRules.{BreaksRings, IsAreaOf, ForRings}
use Rattle.topo_reader.specs.Rules.{UnlessMemory}
use Rattle.topo_reader.specs.Thinned.{ForArcs}
use Rattle.topo_reader.proofs.AreaLemmas.{ok_weaker, err_weaker, many_areas, no_class, rings_fault, place_found}
use Rattle.topo_reader.proofs.place.read_place.Goals as goal

pub returns-then-count-ge-AREAS-clause-fault : goal.returns-then-count-ge-AREAS-clause-fault
returns-then-count-ge-AREAS-clause-fault c =
    let found = rw c.in-Some.is at c.in_ok-rings.ensures.found in
    many_areas (lists_of c.args.arcs.now) c.args.name.now c.args.at c.args.count c.args.steps (json_of c.args.tree.now) found.0 found.1 (omega arith)

pub returns-in_default-2-clause-fault : goal.returns-in_default-2-clause-fault
returns-in_default-2-clause-fault c =
    let found = rw c.in-Some.is at c.in_ok-rings.ensures.found in
    no_class (lists_of c.args.arcs.now) c.args.name.now c.args.at c.args.count c.args.steps (json_of c.args.tree.now) found.0 found.1 (omega arith) (rw c.in_default-2.is at c.in_ok-class.ensures.none)

pub returns-clause-found : goal.returns-clause-found
returns-clause-found c =
    let found = rw c.in-Some.is at c.in_ok-rings.ensures.found in
    let thins = lists_of c.args.arcs.now in
    let rings = rings_in c.deref.result.now in
    let tree = json_of c.args.tree.now in
    let class = c.in-Some-2.class in
    let room : c.args.count < AREAS = omega arith in
    let numbers = ap rings_in c.deref.ensures.value ∙ found.2 in
    ok_weaker c.rings_area.result (λ area. ForRings thins rings (λ paths texts. IsAreaOf paths class c.args.steps texts area)) (λ area. ForArcs thins (λ paths. IsAreaBehind paths c.args.name.now c.args.count c.args.steps tree area))
    (λ area. place_found thins rings c.args.name.now class c.args.count c.args.steps tree found.0 area found.1 numbers room (rw c.in-Some-2.is at c.in_ok-class.ensures.found)) c.rings_area.ensures.found

pub returns-clause-fault : goal.returns-clause-fault
returns-clause-fault c =
    let found = rw c.in-Some.is at c.in_ok-rings.ensures.found in
    let thins = lists_of c.args.arcs.now in
    let rings = rings_in c.deref.result.now in
    let tree = json_of c.args.tree.now in
    let class = c.in-Some-2.class in
    let room : c.args.count < AREAS = omega arith in
    let numbers = ap rings_in c.deref.ensures.value ∙ found.2 in
    err_weaker c.rings_area.result (λ f. UnlessMemory f (ForRings thins rings (λ paths texts. BreaksRings paths c.args.at c.args.steps texts f)))
    (λ f. UnlessMemory f (ForArcs thins (λ paths. BreaksPlace paths c.args.name.now c.args.at c.args.count c.args.steps tree f)))
    (λ f. rings_fault thins rings c.args.name.now class c.args.at c.args.count c.args.steps tree found.0 f found.1 numbers room (rw c.in-Some-2.is at c.in_ok-class.ensures.found)) c.rings_area.ensures.fault
