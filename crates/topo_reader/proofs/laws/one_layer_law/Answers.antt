use Rattle.topo_reader.proofs.OneLayer.{one_layer}
use Rattle.topo_reader.proofs.laws.one_layer_law.Goals as goal

pub returns : goal.returns
returns c = one_layer
