use Rattle.std.proofs.Common.{◌≡◌, ◌++◌, map}
use Rattle.agg_base.specs.Lists.{lists_of}
use Rattle.ring_arcs.specs.Turning.{arc_of}
use Rattle.ring_arcs.proofs.arcs.push_stored.Given as goal

abbrev pub invariant-loop-chain : goal.invariant-loop-chain
invariant-loop-chain l = lists_of l.arcs.items ≡ lists_of l.initial.arcs.items ++ map arc_of (lists_of l.yielded)
