use Rattle.std.proofs.Common.{◌<◌, ℕ}
use Rattle.cert_check.specs.Groups.{IsClassKnown}
use Rattle.cert_check.proofs.numbers.judge_classes.Given as goal

abbrev pub invariant-loop-region : goal.invariant-loop-region
invariant-loop-region l = (r : ℕ) → r < l.region → IsClassKnown l.problem l.grouping r
