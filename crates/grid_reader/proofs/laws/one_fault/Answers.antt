use Rattle.grid_reader.proofs.LawLemmas.{one_first_fault}
use Rattle.grid_reader.proofs.laws.one_fault.Goals as goal

pub returns : goal.returns
returns c = one_first_fault
