use Rattle.std.proofs.Common.{◌≡◌, map, All}
use Rattle.ring_arcs.specs.RingArcs.{arc_at, IsIndex}
use Rattle.agg_base.specs.Lists.{lists_of}
use Rattle.ring_arcs.proofs.numbers.indexes_of_chains.Given as goal

abbrev pub invariant-loop-chain : goal.invariant-loop-chain
invariant-loop-chain l = record {
  in_range : All (IsIndex (lists_of l.arcs)) l.indexes.items;
  told : map (arc_at (lists_of l.arcs)) l.indexes.items ≡ lists_of l.yielded;
}
