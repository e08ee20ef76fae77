use Rattle.std.proofs.Common.{◌<◌, ℕ}
use Rattle.cert_check.specs.Drawings.{IsNamed}
use Rattle.cert_check.proofs.drawing.judge_names.Given as goal

abbrev pub invariant-loop-region : goal.invariant-loop-region
invariant-loop-region l = (r : ℕ) → r < l.region → IsNamed l.names l.drawn l.grouping r
