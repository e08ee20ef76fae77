use Rattle.std.proofs.Common.{sym, ◌∙◌}
use Rattle.union_find.proofs.StepLemmas.{halved, halved_down, halved_below, halved_label}
use Rattle.union_find.proofs.steps.top_of.Goals as goal

pub loop-at-preserved : goal.loop-at-preserved
loop-at-preserved c =
    let f = c.loop-at.above in
    let v = c.loop-at.at in
    let inv = c.loop-at.invariant in (
      halved_down f v inv.1 inv.0,
      halved_below f v inv.1 inv.0,
      λ label_of old. (halved label_of f v inv.1 (inv.2 label_of old).0, halved_label label_of f v inv.1 (inv.2 label_of old).0 ∙ (inv.2 label_of old).1),
    )

pub returns-then-next-at-clause-forest : goal.returns-then-next-at-clause-forest
returns-then-next-at-clause-forest c label_of old =
    let now = c.loop-at.invariant.2 label_of old in
    let top = now.0.top c.loop-at.at c.loop-at.invariant.1 c.if-next-at.true in
    (now.0, sym top ∙ now.1, top)
