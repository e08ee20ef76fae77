use Rattle.edge_sides.proofs.Balance.{balance}
use Rattle.edge_sides.proofs.side_law.Goals as goal

pub returns : goal.returns
returns c = balance
