use Rattle.std.proofs.Common.{take, All}
use Rattle.topo_writer.specs.Drawing.{IsWritableClass}
use Rattle.map_drawing.proofs.tests.are_class_names.Given as goal

abbrev pub invariant-loop-name : goal.invariant-loop-name
invariant-loop-name l = All IsWritableClass (take l.name-index l.names)
