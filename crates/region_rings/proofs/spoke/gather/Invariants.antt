use Rattle.std.proofs.Common.{◌≡◌, take}
use Rattle.region_rings.specs.Spokes.{spokes_from}
use Rattle.region_rings.proofs.spoke.gather.Given as goal

abbrev pub invariant-loop-number : goal.invariant-loop-number
invariant-loop-number l = l.spokes.items ≡ spokes_from 0 (take l.number l.edges)
