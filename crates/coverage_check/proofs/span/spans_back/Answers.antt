use Rattle.std.proofs.Common.{◌≡◌, ℕ, ◌+◌, ◌-◌, sym, subst, arith}
use Rattle.coverage_check.specs.declared.span.Span.{Span}
use Rattle.coverage_check.specs.Spans.{IsSpan}
use Rattle.coverage_check.proofs.SpanLemmas.{spans_more}
use Rattle.coverage_check.proofs.span.spans_back.Goals as goal
use Rattle.coverage_check.proofs.span.spans_back.Goals.{then-at-eq0, else-at-eq0}

pub loop-at-preserved : goal.loop-at-preserved
loop-at-preserved c =
    let es = c.args.edges.now in
    let at = c.loop-at.at in
    let made : IsSpan es at c.if-at-eq0.span = elim c.if-at-eq0.branch [
      | then-at-eq0 w ↦ subst (λ (s : Span). IsSpan es at s) (sym w.span-is) w.alone-span.ensures
      | else-at-eq0 w ↦
          let same : at - 1 + 1 ≡ at = omega (arith, w.if-at-eq0.false) in
          subst (λ (s : Span). IsSpan es at s) (sym w.span-is) (subst (λ (n : ℕ). IsSpan es n w.grown_back-span.result) same w.grown_back-span.ensures)
    ] in
    spans_more es at c.loop-at.spans.items c.push.new.self.items c.if-at-eq0.span c.loop-at.invariant made c.in_ok-push.ensures.items
