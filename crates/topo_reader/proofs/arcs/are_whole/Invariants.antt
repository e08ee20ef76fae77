use Rattle.std.proofs.Common.{take}
use Rattle.std.specs.List.{AllByRecursion}
use Rattle.json_text.specs.Values.{list_of}
use Rattle.topo_reader.specs.ArcFaults.{HasWholeNumbers}
use Rattle.topo_reader.proofs.arcs.are_whole.Given as goal

abbrev pub invariant-loop-position : goal.invariant-loop-position
invariant-loop-position l = AllByRecursion HasWholeNumbers (list_of (take l.position-index l.positions))
