use Rattle.topo_reader.proofs.Faulty.{layer_without_fault}
use Rattle.topo_reader.proofs.laws.layer_without_fault.Goals as goal

pub returns : goal.returns
returns c = layer_without_fault
