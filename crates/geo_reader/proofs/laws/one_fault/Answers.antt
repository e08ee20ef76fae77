use Rattle.geo_reader.proofs.LawLemmas.{one_fault}
use Rattle.geo_reader.proofs.laws.one_fault.Goals as goal

pub returns : goal.returns
returns c = one_fault
