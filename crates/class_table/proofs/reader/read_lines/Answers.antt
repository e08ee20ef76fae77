use Rattle.std.proofs.Common.{arith}
use Rattle.class_table.proofs.ReaderLemmas.{rows_few}
use Rattle.class_table.proofs.reader.read_lines.Goals as goal

pub overflow_add-last : goal.overflow_add-last
overflow_add-last c = let few = rows_few c.args.bytes.now in omega arith
