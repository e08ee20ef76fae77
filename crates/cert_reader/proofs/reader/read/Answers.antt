use Rattle.cert_reader.proofs.LawLemmas.{first_fault_is, spelled_is_read, fault_is_found}
use Rattle.cert_reader.proofs.reader.read.Goals as goal

pub returns-clause-fault : goal.returns-clause-fault
returns-clause-fault c = first_fault_is c.args.bytes.now c.read_text.result c.read_text.ensures.fault

pub returns-clause-spelled : goal.returns-clause-spelled
returns-clause-spelled c = spelled_is_read c.args.bytes.now c.read_text.result c.read_text.ensures.found (first_fault_is c.args.bytes.now c.read_text.result c.read_text.ensures.fault)

pub returns-clause-faulty : goal.returns-clause-faulty
returns-clause-faulty c = fault_is_found c.args.bytes.now c.read_text.result c.read_text.ensures.found (first_fault_is c.args.bytes.now c.read_text.result c.read_text.ensures.fault)
