use Rattle.topo_writer.proofs.Counted.{AreWritten}
use Rattle.topo_writer.proofs.geometry.push_more_geometries.Given as goal

abbrev pub invariant-loop-shape : goal.invariant-loop-shape
invariant-loop-shape l = AreWritten l.shapes l.shape-index l.region l.initial.out.items l.out.items
