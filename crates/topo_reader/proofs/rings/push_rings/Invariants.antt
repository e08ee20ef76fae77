use Rattle.std.proofs.Common.{take}
use Rattle.json_text.specs.Values.{list_of}
use Rattle.topo_reader.specs.Indexes.{rings_in}
use Rattle.topo_reader.proofs.FormLemmas.{HaveRings}
use Rattle.topo_reader.proofs.rings.push_rings.Given as goal

abbrev pub invariant-loop-part : goal.invariant-loop-part
invariant-loop-part l = HaveRings (list_of (take l.part-index l.parts)) (rings_in l.initial.rings.items) (rings_in l.rings.items)
