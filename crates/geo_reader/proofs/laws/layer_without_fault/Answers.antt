use Rattle.geo_reader.proofs.LawLemmas.{layer_without_fault}
use Rattle.geo_reader.proofs.laws.layer_without_fault.Goals as goal

pub returns : goal.returns
returns c = layer_without_fault
