use Rattle.std.proofs.Common.{length}
use Rattle.coverage_check.specs.Spans.{AreSpans}
use Rattle.coverage_check.proofs.span.grow_on.Given as goal

abbrev pub invariant-loop-at : goal.invariant-loop-at
invariant-loop-at l = AreSpans l.edges (length l.edges) l.spans
