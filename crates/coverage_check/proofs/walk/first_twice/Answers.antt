use Rattle.std.proofs.Common.{arith}
use Rattle.coverage_check.proofs.WalkLemmas.{walked_open}
use Rattle.coverage_check.proofs.walk.first_twice.Goals as goal

pub loop-at-preserved : goal.loop-at-preserved
loop-at-preserved c = walked_open c.args.borders.now c.loop-at.at c.index-borders-at.result c.loop-at.within c.in-Open.now c.loop-at-test.true c.index-borders-at.is c.loop-at.invariant (λ a. c.in-Open.ensures a)

pub returns-clause-nowhere : goal.returns-clause-nowhere
returns-clause-nowhere c = λ n h. c.loop-at.invariant.alone n (omega (arith, c.loop-at.auto.at-end))
