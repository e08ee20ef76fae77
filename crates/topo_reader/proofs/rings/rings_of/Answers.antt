use Rattle.std.proofs.Common.{◌+◌, List, subst, take, drop, arith}
use Rattle.json_text.specs.Tree.{Json}
use Rattle.json_text.specs.Values.{json_of, list_of}
use Rattle.topo_reader.specs.Indexes.{rings_in}
use Rattle.topo_reader.proofs.FormLemmas.{HavePolygons, rings_missed, polygons_next, rings_read}
use Rattle.topo_reader.proofs.TreeLists.{listed_at, listed_more, listed_all}
use Rattle.topo_reader.proofs.rings.rings_of.Goals as goal

pub returns-then-not-is_polygon-clause-none : goal.returns-then-not-is_polygon-clause-none
returns-then-not-is_polygon-clause-none c = λ texts.
    let xs = c.in-Some.polygons.now in
    let i = c.loop-polygon.polygon-index in
    rings_missed (json_of c.args.tree.now) (list_of xs) (list_of (take i xs)) (json_of c.polygon-item.result) (list_of (drop (i + 1) xs)) texts c.in-Some.ensures.found
    (listed_at xs i c.polygon-item.result c.loop-polygon-test.true c.polygon-item.is) (c.in_ok-is_polygon.ensures.none c.if-not-is_polygon.true)

pub loop-polygon-preserved : goal.loop-polygon-preserved
loop-polygon-preserved c =
    let xs = c.in-Some.polygons.now in
    let i = c.loop-polygon.polygon-index in
    let found = c.in_ok-is_polygon.ensures.found c.if-not-is_polygon.false in
    polygons_next (list_of (take i xs)) (list_of (take (i + 1) xs)) (rings_in c.loop-polygon.rings.items) (rings_in c.push_rings.new.rings.items) (json_of c.polygon-item.result) found.0 c.loop-polygon.invariant found.1 found.2
    (listed_more xs i c.polygon-item.result c.loop-polygon-test.true c.polygon-item.is)

pub returns-clause-found : goal.returns-clause-found
returns-clause-found c =
    let xs = c.in-Some.polygons.now in
    let rings = rings_in c.loop-polygon.rings.items in
    rings_read (json_of c.args.tree.now) (list_of xs) rings c.in-Some.ensures.found
    (subst (λ (ts : List Json). HavePolygons ts rings) (listed_all xs c.loop-polygon.polygon-index (omega arith)) c.loop-polygon.invariant)
