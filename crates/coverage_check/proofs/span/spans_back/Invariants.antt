use Rattle.coverage_check.specs.Spans.{AreSpans}
use Rattle.coverage_check.proofs.span.spans_back.Given as goal

abbrev pub invariant-loop-at : goal.invariant-loop-at
invariant-loop-at l = AreSpans l.edges l.at l.spans.items
