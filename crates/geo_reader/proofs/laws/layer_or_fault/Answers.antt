use Rattle.geo_reader.proofs.LawLemmas.{layer_or_fault}
use Rattle.geo_reader.proofs.laws.layer_or_fault.Goals as goal

pub returns : goal.returns
returns c = layer_or_fault
