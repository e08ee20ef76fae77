use Rattle.std.proofs.Common.{rules, arith, ◌+◌}
use Rattle.std.specs.Str.{IsUtf8}
use Rattle.arc_dissolve.specs.Shapes.{Shape}
use Rattle.topo_writer.proofs.Pieces.{geometries_more, all_more, all_of}
use Rattle.topo_writer.proofs.geometry.push_more_geometries.Goals as goal

pub loop-shape-preserved : goal.loop-shape-preserved
loop-shape-preserved c = record {
  counted = omega arith;
  left = geometries_more c.args.shapes.now c.loop-shape.shape-index c.shape-item.result (c.loop-shape.region + 1) _ _ _ _ (omega arith) (search rules) c.loop-shape.invariant.left c.in_ok-push.ensures.items c.in_ok-push_geometry.ensures.text;
  utf8 = all_more (λ (shape : Shape). IsUtf8 shape.class) c.args.shapes.now c.loop-shape.shape-index c.shape-item.result (omega arith) (search rules) c.loop-shape.invariant.utf8 c.in_ok-push_geometry.ensures.utf8;
}

pub returns-clause-utf8 : goal.returns-clause-utf8
returns-clause-utf8 c = all_of (λ (shape : Shape). IsUtf8 shape.class) c.args.shapes.now c.loop-shape.shape-index c.loop-shape-test.false c.loop-shape.invariant.utf8
