use Rattle.crew_work.proofs.RunLemmas.{one_result, runs_in_order}
use Rattle.crew_work.proofs.SomeRuns.{some_result, some_run}
use Rattle.crew_work.proofs.work.runs_law.Goals as goal

pub returns-clause-in_order : goal.returns-clause-in_order
returns-clause-in_order g c = runs_in_order (g.J.Job.stands c.args.job.now)

pub returns-clause-one_result : goal.returns-clause-one_result
returns-clause-one_result g c = one_result

pub returns-clause-some_result : goal.returns-clause-some_result
returns-clause-some_result g c = some_result

pub returns-clause-each_order : goal.returns-clause-each_order
returns-clause-each_order g c = some_run (g.J.Job.stands c.args.job.now)
