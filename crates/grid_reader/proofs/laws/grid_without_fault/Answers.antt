use Rattle.grid_reader.proofs.LawLemmas.{grid_no_fault}
use Rattle.grid_reader.proofs.laws.grid_without_fault.Goals as goal

pub returns : goal.returns
returns c = grid_no_fault
