use Rattle.std.proofs.Common.{rules}
use Rattle.generalise_steps.proofs.StepLemmas.{grid_refused}
use Rattle.generalise_steps.proofs.map_reading.read_grid.Goals as goal

pub returns-in-Err-clause-refused : goal.returns-in-Err-clause-refused
returns-in-Err-clause-refused c = grid_refused c.args.map.now c.in-Err.fault _ _ c.in-Err.ensures.fault c.of_grid.ensures.line c.of_grid.ensures.real c.of.ensures
