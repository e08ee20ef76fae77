use Rattle.topo_reader.proofs.Faulty.{one_fault}
use Rattle.topo_reader.proofs.laws.one_fault.Goals as goal

pub returns : goal.returns
returns c = one_fault
