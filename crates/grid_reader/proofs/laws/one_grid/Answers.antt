use Rattle.grid_reader.proofs.LawLemmas.{one_grid_text}
use Rattle.grid_reader.proofs.laws.one_grid.Goals as goal

pub returns : goal.returns
returns c = one_grid_text
