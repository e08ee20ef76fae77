use Rattle.std.proofs.Common.{take}
use Rattle.json_text.specs.Values.{list_of}
use Rattle.topo_reader.proofs.FormLemmas.{AreNumbers}
use Rattle.topo_reader.proofs.rings.are_numbers.Given as goal

abbrev pub invariant-loop-tree : goal.invariant-loop-tree
invariant-loop-tree l = AreNumbers (list_of (take l.tree-index l.trees))
