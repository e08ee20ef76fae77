use Rattle.json_text.specs.Values.{json_of}
use Rattle.geo_reader.proofs.RingLemmas.{one_found, one_missed, several_found, several_missed}
use Rattle.geo_reader.proofs.ring.rings_of.Goals as goal

pub returns-then-has_type-clause-found : goal.returns-then-has_type-clause-found
returns-then-has_type-clause-found c =
    one_found c.rings_of_polygon.result (json_of c.args.geometry.now) (json_of c.in-Some.coordinates.now) c.in-Some.ensures (c.has_type.ensures.0 c.if-has_type.true) c.rings_of_polygon.ensures.found

pub returns-then-has_type-clause-none : goal.returns-then-has_type-clause-none
returns-then-has_type-clause-none c =
    one_missed c.rings_of_polygon.result (json_of c.args.geometry.now) (json_of c.in-Some.coordinates.now) c.in-Some.ensures (c.has_type.ensures.0 c.if-has_type.true) c.rings_of_polygon.ensures.none

pub returns-then-has_type-2-clause-found : goal.returns-then-has_type-2-clause-found
returns-then-has_type-2-clause-found c =
    several_found c.rings_of_polygons.result (json_of c.args.geometry.now) (json_of c.in-Some.coordinates.now) c.in-Some.ensures (c.has_type-2.ensures.0 c.if-has_type-2.true) c.rings_of_polygons.ensures.found

pub returns-then-has_type-2-clause-none : goal.returns-then-has_type-2-clause-none
returns-then-has_type-2-clause-none c =
    several_missed c.rings_of_polygons.result (json_of c.args.geometry.now) (json_of c.in-Some.coordinates.now) c.in-Some.ensures (c.has_type-2.ensures.0 c.if-has_type-2.true) c.rings_of_polygons.ensures.none
