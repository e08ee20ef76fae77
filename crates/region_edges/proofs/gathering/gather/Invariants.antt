use Rattle.std.proofs.Common.{length}
use Rattle.agg_model.specs.Problem.{region}
use Rattle.coverage_check.specs.Kept.{odds_of}
use Rattle.region_edges.specs.Gathering.{AreGathered}
use Rattle.agg_base.specs.Lists.{lists_of}
use Rattle.region_edges.proofs.gathering.gather.Given as goal

abbrev pub invariant-loop-area : goal.invariant-loop-area
invariant-loop-area l = AreGathered (odds_of l.checked.areas) (region l.grouping) (length l.grouping.class_of) l.area (lists_of l.edges.items)
