-- The odd edges of an area that counts.
use Rattle.std.specs.Prelude.{IsTrue}
use Rattle.plane_edge.specs.Edges.{IsRisingEdges, HaveEvenEnds}
use Rattle.coverage_check.specs.Kept.{OddArea, has_edge}

-- the odd edges of each area that is kept: at least one, in rising order, and each point ends an even number of them
pub record IsOddPart (a : OddArea) : Type 0 where
  pub some : IsTrue (has_edge a)
  pub rising : IsRisingEdges a.odd_edges
  pub even : HaveEvenEnds a.odd_edges
