use Rattle.std.proofs.Common.{◌-◌, arith, length}
use Rattle.coverage_check.proofs.SpanLemmas.{spans_set}
use Rattle.coverage_check.proofs.span.grow_on.Goals as goal

pub loop-at-preserved : goal.loop-at-preserved
loop-at-preserved c =
    spans_set c.args.edges.now (length c.args.edges.now) (c.loop-at.at - 1 - 1) c.loop-at.spans c.grown_on.result c.loop-at.invariant (omega (arith, c.loop-at.auto.at, c.loop-at-test.true)) c.grown_on.ensures
