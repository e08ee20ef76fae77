use Rattle.std.proofs.Common.{◌≡◌, take}
use Rattle.area_graph.proofs.graph.thresholds.Given as goal

abbrev pub invariant-loop-class : goal.invariant-loop-class
invariant-loop-class l = l.items.items ≡ take l.class l.table.threshold
