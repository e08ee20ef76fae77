use Rattle.std.proofs.Common.{◌<◌}
use Rattle.ring_arcs.specs.Numbers.{IsLeastAt}
use Rattle.ring_arcs.proofs.numbers.least_at.Given as goal

abbrev pub invariant-loop-at : goal.invariant-loop-at
invariant-loop-at l = record { behind : l.best < l.at; least : IsLeastAt l.indexes l.at l.best }
