use Rattle.std.proofs.Common.{take}
use Rattle.json_text.specs.Values.{list_of}
use Rattle.topo_reader.specs.Indexes.{rings_in}
use Rattle.topo_reader.proofs.FormLemmas.{HavePolygons}
use Rattle.topo_reader.proofs.rings.rings_of.Given as goal

abbrev pub invariant-loop-polygon : goal.invariant-loop-polygon
invariant-loop-polygon l = HavePolygons (list_of (take l.polygon-index l.polygons)) (rings_in l.rings.items)
