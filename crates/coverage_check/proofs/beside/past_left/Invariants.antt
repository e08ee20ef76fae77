use Rattle.std.proofs.Common.{◌+◌, ◌-◌, ◌<◌, ◌≤◌, length}
use Rattle.coverage_check.specs.Partners.{AreLeft}
use Rattle.coverage_check.proofs.beside.past_left.Given as goal

abbrev pub invariant-loop-low : goal.invariant-loop-low
invariant-loop-low l = (l.place < l.low) × (l.low ≤ l.high) × (l.high ≤ length l.edges) × AreLeft l.edges (l.place + 1) l.low l.left

abbrev pub decreases-loop-low : goal.decreases-loop-low
decreases-loop-low l = l.high - l.low
