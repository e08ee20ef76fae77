use Rattle.std.proofs.Common.{ℕ, ◌<◌, slice_index}
use Rattle.region_edges.proofs.tests.are_below.Given as goal

abbrev pub invariant-loop-region : goal.invariant-loop-region
invariant-loop-region l = (k : ℕ) → k < l.region-index → slice_index l.region_of k < l.regions
