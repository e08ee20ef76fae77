use Rattle.class_table.proofs.ReaderLemmas.{gives_table, gives_fault, gives_spelled, gives_faulty}
use Rattle.class_table.proofs.reader.read.Goals as goal

pub returns-clause-found : goal.returns-clause-found
returns-clause-found c = gives_table c.args.bytes.now c.read_text.result c.read_text.ensures

pub returns-clause-fault : goal.returns-clause-fault
returns-clause-fault c = gives_fault c.args.bytes.now c.read_text.result c.read_text.ensures

pub returns-clause-spelled : goal.returns-clause-spelled
returns-clause-spelled c = λ t spelled. gives_spelled c.args.bytes.now c.read_text.result t c.read_text.ensures spelled

pub returns-clause-faulty : goal.returns-clause-faulty
returns-clause-faulty c = λ f first. gives_faulty c.args.bytes.now c.read_text.result f c.read_text.ensures first
