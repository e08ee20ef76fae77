use Rattle.std.proofs.Common.{◌≡◌, ◌≤◌, length}
use Rattle.grid_reader.specs.Patches.{AreNumbered, number_at}
use Rattle.grid_reader.proofs.patches.number_all.Given as goal

abbrev pub invariant-loop-at : goal.invariant-loop-at
invariant-loop-at l = record {
  long : length l.numbers.items ≡ l.at;
  few : l.count ≤ l.at;
  numbered : AreNumbered l.grid l.at (number_at l.numbers.items) l.count;
}
