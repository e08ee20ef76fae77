use Rattle.geo_reader.proofs.LawLemmas.{one_layer}
use Rattle.geo_reader.proofs.laws.one_layer.Goals as goal

pub returns : goal.returns
returns c = one_layer
