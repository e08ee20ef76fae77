-- What the odd edges of an area are.
use Rattle.std.specs.Prelude.{List}
use Rattle.plane_edge.specs.declared.edge.Edge.{Edge}
use Rattle.plane_edge.specs.Edges.{AreOddOf}
use Rattle.coverage_check.specs.Kept.{odd_list}

-- they are the edges that occur an odd number of times among its steps, each once, in rising order
abbrev pub OddLaw : Type 0
OddLaw = (steps : List Edge) → AreOddOf steps (odd_list steps)
