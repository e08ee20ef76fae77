use Rattle.std.proofs.Common.{◌≡◌, [], replicate}
use Rattle.agg_base.specs.Lists.{lists_of}
use Rattle.grid_reader.proofs.members.no_members.Given as goal

abbrev pub invariant-loop-patch : goal.invariant-loop-patch
invariant-loop-patch l = lists_of l.members.items ≡ replicate l._patch []
