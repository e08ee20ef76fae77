use Rattle.std.proofs.Common.{◌≡◌, [], replicate}
use Rattle.agg_base.specs.Lists.{lists_of}
use Rattle.region_edges.proofs.gathering.empty_lists.Given as goal

abbrev pub invariant-loop-region : goal.invariant-loop-region
invariant-loop-region l = lists_of l.edges.items ≡ replicate l._region []
