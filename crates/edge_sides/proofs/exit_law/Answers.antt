use Rattle.edge_sides.proofs.Onward.{exit}
use Rattle.edge_sides.proofs.exit_law.Goals as goal

pub returns : goal.returns
returns c = exit
