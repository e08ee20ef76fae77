use Rattle.std.proofs.Common.{◌≡◌, length}
use Rattle.union_find.proofs.tests.least_members.Given as goal

abbrev pub invariant-loop-a : goal.invariant-loop-a
invariant-loop-a g l = length l.forest ≡ 7
