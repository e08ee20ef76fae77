use Rattle.std.proofs.Common.{◌≡◌, ◌++◌}
use Rattle.std.specs.Vec.Iter.{into_iter_items}
use Rattle.agg_base.specs.Lists.{lists_of}
use Rattle.region_edges.proofs.SweepLemmas.{AreOddOfEach}
use Rattle.region_edges.proofs.sweeping.odd_of_each.Given as goal

abbrev pub invariant-loop-list : goal.invariant-loop-list
invariant-loop-list l = record {
  rest : l.yielded ++ into_iter_items l.list-iterator ≡ l.fn.edges.items;
  swept : AreOddOfEach (lists_of l.yielded) (lists_of l.odds.items);
}
