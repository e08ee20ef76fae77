use Rattle.std.proofs.Common.{◌≢◌, ◌<◌, ℕ}
use Rattle.class_table.specs.Table.{name_of}
use Rattle.area_graph.proofs.owners.class_named.Given as goal

abbrev pub invariant-loop-class : goal.invariant-loop-class
invariant-loop-class l = (k : ℕ) → k < l.class → name_of l.table k ≢ l.name
