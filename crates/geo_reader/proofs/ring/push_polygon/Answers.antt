use Rattle.json_text.specs.Values.{json_of}
use Rattle.geo_reader.proofs.LoopLemmas.{no_ring}
use Rattle.geo_reader.proofs.ring.push_polygon.Goals as goal

pub returns-in_default-ring_of : goal.returns-in_default-ring_of
returns-in_default-ring_of c =
    no_ring (json_of c.args.polygon.now) c.in-Some.parts.now c.loop-part.part-index c.part-item.result c.in-Some.ensures.found c.loop-part-test.true c.part-item.is (rw c.in_default-ring_of.is at c.ring_of.ensures.none)
