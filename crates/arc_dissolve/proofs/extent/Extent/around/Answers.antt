use Rattle.arc_dissolve.proofs.extent.Extent.around.Goals as goal

pub returns-clause-first : goal.returns-clause-first
returns-clause-first c = record { low = c.low_corner-low.ensures.first; high = c.high_corner-high.ensures.first }

pub returns-clause-second : goal.returns-clause-second
returns-clause-second c = record { low = c.low_corner-low.ensures.second; high = c.high_corner-high.ensures.second }
