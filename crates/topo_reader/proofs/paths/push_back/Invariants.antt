use Rattle.std.proofs.Common.{◌≡◌, ◌++◌, ◌-◌, length, take, drop, reverse}
use Rattle.topo_reader.proofs.paths.push_back.Given as goal

abbrev pub invariant-loop-at : goal.invariant-loop-at
invariant-loop-at l = l.points.items ≡ l.initial.points.items ++ reverse (drop l.at (take (length l.arc - 1) l.arc))
