use Rattle.std.proofs.Common.{subst, All}
use Rattle.std.proofs.lemmas.List.{take_all}
use Rattle.std.proofs.lemmas.List.Elements.{All-more}
use Rattle.topo_writer.specs.Drawing.{IsWritableClass}
use Rattle.map_drawing.proofs.tests.are_class_names.Goals as goal

pub loop-name-preserved : goal.loop-name-preserved
loop-name-preserved c =
    let here = c.is_class_name.ensures c.if-not-is_class_name.false in
    All-more IsWritableClass c.args.names.now c.loop-name.name-index c.name-item.result c.loop-name-test.true c.loop-name.invariant (subst IsWritableClass c.name-item.is here)

pub returns : goal.returns
returns c = λ h. subst (All IsWritableClass) (take_all c.loop-name.name-index c.args.names.now c.loop-name-test.false) c.loop-name.invariant
