use Rattle.std.proofs.Common.{◌≡◌, ◌-◌, ◌<◌, All, length, map, replicate, []}
use Rattle.agg_base.specs.declared.limits.TheConstants.{CLASSES}
use Rattle.cert_reader.specs.Due.{ClassDue}
use Rattle.cert_reader.specs.Reads.{ReadsPlainly}
use Rattle.cert_reader.specs.declared.line.Line.TheVariants.{Class}
use Rattle.cert_reader.proofs.head_reader.read_classes.Given as goal

abbrev pub invariant-loop-place : goal.invariant-loop-place
invariant-loop-place l = record {
  reads : ReadsPlainly (replicate l.count ClassDue) (replicate (l.count - l._place) ClassDue) (map Class l.classes.items) l.initial.source l.source;
  range : All (λ x. x < CLASSES) l.classes.items;
  count_is : length l.classes.items ≡ l._place;
}
