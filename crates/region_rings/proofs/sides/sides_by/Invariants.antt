use Rattle.std.proofs.Common.{take}
use Rattle.region_rings.specs.Sides.{AreSides}
use Rattle.region_rings.proofs.sides.sides_by.Given as goal

abbrev pub invariant-loop-edge : goal.invariant-loop-edge
invariant-loop-edge l = AreSides l.rows (take l.edge-index l.edges) l.sides.items
