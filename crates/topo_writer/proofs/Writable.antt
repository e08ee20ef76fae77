-- What is drawn may be written.
use Rattle.std.proofs.Common.{ℕ, ◌<◌, ◌≤◌, List, [], length, All, sym, subst, arith}
use Rattle.agg_base.specs.declared.limits.TheConstants.{AREAS}
use Rattle.agg_model.specs.Problem.{Grouping, class_in}
use Rattle.plane_edge.specs.declared.edge.Edge.{Edge}
use Rattle.plane_edge.specs.declared.frame.Frame.{Frame}
use Rattle.arc_dissolve.specs.Drawing.{IsDrawingOf}
use Rattle.arc_dissolve.specs.Shapes.{Regions}
use Rattle.topo_writer.specs.Drawing.{IsWritableClass, IsWritable}
use Rattle.map_values.specs.Frames.{IsNumberFrame}

-- the map of a grouping, where its regions are few, and the frame and the names may be written
pub drawing_is_writable : (odds : List (List Edge)) (groups : Grouping) (names : List (List ℕ)) (regions : Regions) (frame : Frame) → IsDrawingOf odds groups names regions
    → IsNumberFrame frame → All IsWritableClass names → length groups.class_of ≤ AREAS → ((r : ℕ) → r < length groups.class_of → class_in groups r < length names) → IsWritable regions frame
drawing_is_writable odds groups names regions frame drawing frame_is good few in_range = record {
  frame_is = frame_is;
  few_shapes = omega (arith, drawing.count);
  few_steps = drawing.few;
  classes = λ k d below.
      let r : k < length groups.class_of = omega (arith, drawing.count) in
      subst IsWritableClass (sym (drawing.each k d r).class) (good (class_in groups k) [] (in_range k r));
  long = drawing.stored.long;
  rings = λ k d below.
      let r : k < length groups.class_of = omega (arith, drawing.count) in
      λ i e inside. let ring = (drawing.each k d r).rings i e inside in record { some = ring.some; in_range = ring.in_range; closed = ring.closed };
}
