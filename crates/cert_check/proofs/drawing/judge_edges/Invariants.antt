use Rattle.std.proofs.Common.{◌<◌, ℕ}
use Rattle.coverage_check.specs.Kept.{odds_of}
use Rattle.cert_check.specs.Drawings.{IsDrawnAs}
use Rattle.cert_check.proofs.drawing.judge_edges.Given as goal

abbrev pub invariant-loop-region : goal.invariant-loop-region
invariant-loop-region l = (r : ℕ) → r < l.region → IsDrawnAs (odds_of l.checked.areas) l.drawn l.grouping r
