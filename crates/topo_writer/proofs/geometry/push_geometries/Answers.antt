use Rattle.std.proofs.Common.{arith, subst}
use Rattle.std.specs.Str.{IsUtf8}
use Rattle.arc_dissolve.specs.Shapes.{Shape}
use Rattle.topo_writer.proofs.Pieces.{first_and_rest}
use Rattle.topo_writer.proofs.geometry.push_geometries.Goals as goal

pub returns-clause-utf8 : goal.returns-clause-utf8
returns-clause-utf8 c =
    first_and_rest (λ (shape : Shape). IsUtf8 shape.class) c.args.shapes.now c.first-item.result (omega arith)
    (subst (λ (shape : Shape). IsUtf8 shape.class) c.first-item.is c.in_ok-push_geometry.ensures.utf8) c.in_ok-push_more_geometries.ensures.utf8
