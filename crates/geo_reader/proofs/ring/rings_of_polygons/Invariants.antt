use Rattle.std.proofs.Common.{take}
use Rattle.json_text.specs.Values.{list_of}
use Rattle.geo_reader.specs.Held.{rings_in, HasFlattened}
use Rattle.geo_reader.proofs.ring.rings_of_polygons.Given as goal

abbrev pub invariant-loop-polygon : goal.invariant-loop-polygon
invariant-loop-polygon l = HasFlattened (list_of (take l.polygon-index l.polygons)) (rings_in l.rings.items)
