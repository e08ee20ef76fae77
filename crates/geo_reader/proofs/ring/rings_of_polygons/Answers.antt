use Rattle.json_text.specs.Values.{json_of}
use Rattle.geo_reader.proofs.LoopLemmas.{no_polygon}
use Rattle.geo_reader.proofs.ring.rings_of_polygons.Goals as goal

pub returns-then-not-branch-clause-none : goal.returns-then-not-branch-clause-none
returns-then-not-branch-clause-none c =
    no_polygon (json_of c.args.coordinates.now) c.in-Some.polygons.now c.loop-polygon.polygon-index c.polygon-item.result c.in-Some.ensures.found c.loop-polygon-test.true c.polygon-item.is (rw c.if-not-branch.true at c.in_ok-push_polygon.ensures)
