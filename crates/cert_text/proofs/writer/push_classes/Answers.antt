use Rattle.std.proofs.Common.{rules, arith}
use Rattle.cert_text.specs.declared.line.Line.TheVariants.{Class}
use Rattle.cert_text.proofs.TextLemmas.{appends_item}
use Rattle.cert_text.proofs.writer.push_classes.Goals as goal

pub loop-class-preserved : goal.loop-class-preserved
loop-class-preserved c = appends_item Class _ _ _ _ _ _ (omega arith) (search rules) c.loop-class.invariant c.in_ok-push_class.ensures
