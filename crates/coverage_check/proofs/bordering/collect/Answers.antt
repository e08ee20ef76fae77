use Rattle.std.proofs.Common.{◌∙◌, ◌+◌, sym, ap, subst, Vec, Global}
use Rattle.coverage_check.specs.declared.border.Border.{Border}
use Rattle.coverage_check.specs.Bordering.{AreBordersUpTo}
use Rattle.coverage_check.proofs.BorderLemmas.{borders_past, borders_more}
use Rattle.coverage_check.proofs.bordering.collect.Goals as goal
use Rattle.coverage_check.proofs.bordering.collect.Goals.{in-Some+in_ok-push, in_default}

pub loop-at-preserved : goal.loop-at-preserved
loop-at-preserved c =
    let us = c.args.uses.now in
    let n = c.loop-at.at in
    let before = c.loop-at.borders.items in
    elim c.match-border_at.branch [
      | in-Some+in_ok-push w ↦ subst (AreBordersUpTo us (n + 1)) (sym (ap (λ (v : Vec Border Global). v.items) w.borders-is ∙ w.in_ok-push.ensures.items)) (borders_more us n before w.in-Some.border c.requires c.loop-at.invariant w.in-Some.ensures.some)
      | in_default w ↦ subst (AreBordersUpTo us (n + 1)) (sym (ap (λ (v : Vec Border Global). v.items) w.borders-is)) (borders_past us n before c.loop-at.invariant w.in_default.ensures.none)
    ]
