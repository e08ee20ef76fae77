use Rattle.std.proofs.Common.{◌<◌, ℕ}
use Rattle.cert_check.specs.Groups.{IsRegionKnown}
use Rattle.cert_check.proofs.numbers.judge_regions.Given as goal

abbrev pub invariant-loop-area : goal.invariant-loop-area
invariant-loop-area l = (v : ℕ) → v < l.area → IsRegionKnown l.grouping v
