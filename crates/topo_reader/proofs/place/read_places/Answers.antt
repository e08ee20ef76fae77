use Rattle.std.proofs.Common.{◌≡◌, ◌+◌, List, length, sym, ap, take, drop, arith, rules}
use Rattle.std.proofs.lemmas.Grind.{common_steps}
use Rattle.agg_base.specs.Lists.{lists_of}
use Rattle.json_text.specs.Values.{json_of, list_of}
use Rattle.plane_edge.specs.declared.edge.Edge.{Edge}
use Rattle.topo_reader.specs.PlaceFaults.{IsPlaceFault}
use Rattle.topo_reader.specs.Rules.{UnlessMemory}
use Rattle.topo_reader.specs.Thinned.{ForArcs}
use Rattle.topo_reader.proofs.AreaLemmas.{err_from}
use Rattle.topo_reader.proofs.PlaceLemmas.{passed_next, area_next, read_fault, counted_fault}
use Rattle.topo_reader.proofs.TreeLists.{listed_at, listed_more, listed_count}
use Rattle.topo_reader.proofs.place.read_places.Goals as goal

pub returns-in_err-area-clause-fault : goal.returns-in_err-area-clause-fault
returns-in_err-area-clause-fault c =
    let i = c.loop-at.at in
    let xs = c.args.places.now in
    let thins = lists_of c.args.arcs.now in
    let name = c.args.name.now in
    let tree = json_of c.index-places-at.result in
    let areas = c.loop-at.areas.items in
    let fault = c.in_err-area.field-0.0 in
    let count : c.len-count.result ≡ length c.loop-at.areas.items = first_of (omega arith, search rules, grind (arith, common_steps)) in
    err_from c.from_residual.result fault (λ f. UnlessMemory f (ForArcs thins (λ paths. IsPlaceFault paths name (list_of xs) f))) c.from_residual.ensures.1
    (read_fault thins name (list_of xs) (list_of (take i xs)) tree (list_of (drop (i + 1) xs)) areas c.loop-at.steps c.loop-at.passed i fault c.loop-at.invariant
    (listed_at xs i c.index-places-at.result (omega arith) c.index-places-at.is) (listed_count xs i (omega arith)) (sym c.if-is_passed.ensures)
    (counted_fault thins name areas i c.len-count.result c.loop-at.steps tree fault count c.in_err-area.ensures.fault))

pub loop-at-preserved-then-is_passed : goal.loop-at-preserved-then-is_passed
loop-at-preserved-then-is_passed c =
    let i = c.loop-at.at in
    let xs = c.args.places.now in
    passed_next (lists_of c.args.arcs.now) c.args.name.now (list_of (take i xs)) (list_of (take (i + 1) xs)) c.loop-at.areas.items c.loop-at.steps c.loop-at.passed (json_of c.index-places-at.result) c.loop-at.invariant c.if-is_passed.ensures
    (listed_more xs i c.index-places-at.result (omega arith) c.index-places-at.is)

pub loop-at-preserved : goal.loop-at-preserved
loop-at-preserved c =
    let i = c.loop-at.at in
    let xs = c.args.places.now in
    let count : c.len-count.result ≡ length c.loop-at.areas.items = first_of (omega arith, search rules, grind (arith, common_steps)) in
    area_next (lists_of c.args.arcs.now) c.args.name.now (list_of (take i xs)) (list_of (take (i + 1) xs)) c.loop-at.areas.items c.push.new.self.items c.loop-at.steps c.len-count.result (c.loop-at.steps + length c.steps.result.now) c.loop-at.passed
    (json_of c.index-places-at.result) c.in_ok-area.area c.loop-at.invariant c.if-is_passed.ensures count c.in_ok-area.ensures.found c.in_ok-area.ensures.room c.in_ok-area.ensures.few
    (listed_more xs i c.index-places-at.result (omega arith) c.index-places-at.is) c.in_ok-push.ensures.items (ap (λ (es : List Edge). c.loop-at.steps + length es) c.steps.ensures.value)
