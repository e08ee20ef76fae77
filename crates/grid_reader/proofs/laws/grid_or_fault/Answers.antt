use Rattle.grid_reader.proofs.GridOrLemmas.{grid_or}
use Rattle.grid_reader.proofs.laws.grid_or_fault.Goals as goal

pub returns : goal.returns
returns c = grid_or
