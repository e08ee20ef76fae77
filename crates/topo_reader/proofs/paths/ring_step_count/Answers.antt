use Rattle.std.proofs.Common.{arith}
use Rattle.topo_reader.proofs.paths.ring_step_count.Goals as goal

pub returns-in-Some-clause-count : goal.returns-in-Some-clause-count
returns-in-Some-clause-count c = λ wholes s. (let found = c.in-Some.ensures.found wholes s in omega arith)

pub returns-in-None-clause-count : goal.returns-in-None-clause-count
returns-in-None-clause-count c = λ wholes s. (let many = c.in-None.ensures.none wholes s in omega arith)
