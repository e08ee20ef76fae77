use Rattle.std.proofs.Common.{◌*◌}
use Rattle.bound_rows.specs.Scratch.{HasWays}
use Rattle.bound_rows.proofs.ways.Ways.new.Given as goal

abbrev pub invariant-loop-link : goal.invariant-loop-link
invariant-loop-link l = HasWays l.problem (2 * l.link) l.ways
