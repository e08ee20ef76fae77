use Rattle.topo_reader.proofs.Faulty.{layer_or_fault}
use Rattle.topo_reader.proofs.laws.layer_or_fault.Goals as goal

pub returns : goal.returns
returns c = layer_or_fault
