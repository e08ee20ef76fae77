use Rattle.std.proofs.Common.{◌≡◌, ◌++◌}
use Rattle.agg_base.specs.Lists.{lists_of}
use Rattle.arc_dissolve.proofs.groups.push_all.Given as goal

abbrev pub invariant-loop-ring : goal.invariant-loop-ring
invariant-loop-ring l = lists_of l.rings.items ≡ lists_of l.initial.rings.items ++ lists_of l.yielded
