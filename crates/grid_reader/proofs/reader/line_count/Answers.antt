use Rattle.std.proofs.Common.{arith}
use Rattle.grid_reader.proofs.BoundLemmas.{lines_few}
use Rattle.grid_reader.proofs.reader.line_count.Goals as goal

pub overflow_add-count : goal.overflow_add-count
overflow_add-count c = let few = lines_few c.args.bytes.now in omega arith

pub returns-clause-few : goal.returns-clause-few
returns-clause-few c = let few = lines_few c.args.bytes.now in omega arith
