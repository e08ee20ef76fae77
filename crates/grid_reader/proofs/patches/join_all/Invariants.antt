use Rattle.std.proofs.Common.{◌≡◌, length}
use Rattle.grid_reader.specs.Joins.{IsJoined}
use Rattle.grid_reader.proofs.patches.join_all.Given as goal

abbrev pub invariant-loop-at : goal.invariant-loop-at
invariant-loop-at l = record {
  long : length l.forest ≡ length l.grid.cells;
  joined : IsJoined l.grid l.at l.at l.forest;
}
