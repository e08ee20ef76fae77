use Rattle.std.proofs.Common.{◌≡◌, ◌-◌, ◌<◌, All, length, map, replicate, []}
use Rattle.agg_base.specs.declared.limits.TheConstants.{AREAS}
use Rattle.cert_reader.specs.Due.{RegionDue}
use Rattle.cert_reader.specs.Reads.{ReadsPlainly}
use Rattle.cert_reader.specs.declared.line.Line.TheVariants.{Region}
use Rattle.cert_reader.proofs.head_reader.read_places.Given as goal

abbrev pub invariant-loop-place : goal.invariant-loop-place
invariant-loop-place l = record {
  reads : ReadsPlainly (replicate l.count RegionDue) (replicate (l.count - l._place) RegionDue) (map Region l.places.items) l.initial.source l.source;
  range : All (λ x. x < AREAS) l.places.items;
  count_is : length l.places.items ≡ l._place;
}
