use Rattle.std.proofs.Common.{take}
use Rattle.json_text.specs.Values.{list_of}
use Rattle.geo_reader.specs.Held.{rings_in, HasAppended}
use Rattle.geo_reader.proofs.ring.push_polygon.Given as goal

abbrev pub invariant-loop-part : goal.invariant-loop-part
invariant-loop-part l = HasAppended (list_of (take l.part-index l.parts)) (rings_in l.initial.rings.items) (rings_in l.rings.items)
