use Rattle.std.proofs.Common.{◌≡◌, length}
use Rattle.union_find.proofs.tests.least_members_and_sets_apart.Given as goal

abbrev pub invariant-loop : goal.invariant-loop
invariant-loop g l = length l.forest ≡ 5

abbrev pub invariant-loop-member : goal.invariant-loop-member
invariant-loop-member g l = length l.forest ≡ 5

abbrev pub invariant-loop-member-2 : goal.invariant-loop-member-2
invariant-loop-member-2 g l = length l.forest ≡ 5
