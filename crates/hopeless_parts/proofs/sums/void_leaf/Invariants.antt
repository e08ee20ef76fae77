use Rattle.std.proofs.Common.{◌≡◌}
use Rattle.row_laws.specs.FirstSums.{escape_rows}
use Rattle.hopeless_parts.proofs.sums.void_leaf.Given as goal

abbrev pub invariant-loop-class : goal.invariant-loop-class
invariant-loop-class l = l.rows.items ≡ escape_rows l.area l.part 0 l.class
