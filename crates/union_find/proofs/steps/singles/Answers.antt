use Rattle.std.proofs.Common.{arith, zero-add}
use Rattle.std.proofs.lemmas.Grind.{common_steps}
use Rattle.union_find.proofs.StepLemmas.{range_more}
use Rattle.union_find.proofs.steps.singles.Goals as goal

pub loop-member-preserved : goal.loop-member-preserved
loop-member-preserved c = let more = range_more 0 c.loop-member.member in let z = zero-add c.loop-member.member in grind (arith, common_steps)
