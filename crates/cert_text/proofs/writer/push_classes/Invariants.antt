use Rattle.std.proofs.Common.{map, take}
use Rattle.cert_text.specs.Gives.{Appends}
use Rattle.cert_text.specs.declared.line.Line.TheVariants.{Class}
use Rattle.cert_text.proofs.writer.push_classes.Given as goal

abbrev pub invariant-loop-class : goal.invariant-loop-class
invariant-loop-class l = Appends l.initial.out.items (map Class (take l.class-index l.classes)) l.out.items
