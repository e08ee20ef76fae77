use Rattle.std.proofs.Common.{◌≡◌, length, map}
use Rattle.arc_dissolve.specs.Drawing.{one_list}
use Rattle.agg_base.specs.Lists.{lists_of, nested_of}
use Rattle.arc_dissolve.proofs.groups.flatten.Given as goal

abbrev pub invariant-loop-group : goal.invariant-loop-group
invariant-loop-group l = record {
  rings : lists_of l.rings.items ≡ one_list (nested_of l.yielded);
  counts : l.counts.items ≡ map (λ group. length group) (nested_of l.yielded);
}
