use Rattle.arc_dissolve.proofs.extent.Extent.of_edge.Goals as goal

pub returns : goal.returns
returns c = record {
  low = record { low = c.low_corner-low.ensures.first; high = c.high_corner-high.ensures.first };
  high = record { low = c.low_corner-low.ensures.second; high = c.high_corner-high.ensures.second };
}
