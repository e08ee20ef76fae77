use Rattle.std.proofs.Common.{◌∙◌, sym, ap, Vec, Global}
use Rattle.coverage_check.specs.Kept.{OddArea}
use Rattle.coverage_check.proofs.KeptLemmas.{kept_yes, kept_no}
use Rattle.coverage_check.proofs.kept.keep.Goals as goal
use Rattle.coverage_check.proofs.kept.keep.Goals.{then-has_edge+in_ok-push, else-has_edge}

pub loop-area-preserved : goal.loop-area-preserved
loop-area-preserved c =
    let i = c.loop-area.area-index in
    let a = c.area-item.result in
    let o = c.in_ok-odd.odd in
    elim c.if-has_edge.branch [
      | then-has_edge+in_ok-push w ↦
          kept_yes c.args.areas.now i a o c.loop-area.kept.items c.if-has_edge.kept.items c.loop-area-test.true c.area-item.is c.in_ok-odd.ensures (sym c.has_edge.ensures.value ∙ w.if-has_edge.true) c.has_edge.ensures.rising c.has_edge.ensures.even
          c.loop-area.invariant (ap (λ (v : Vec OddArea Global). v.items) w.kept-is ∙ w.in_ok-push.ensures.items)
      | else-has_edge w ↦
          kept_no c.args.areas.now i a o c.loop-area.kept.items c.if-has_edge.kept.items c.loop-area-test.true c.area-item.is c.in_ok-odd.ensures (sym c.has_edge.ensures.value ∙ w.if-has_edge.false)
          c.loop-area.invariant (ap (λ (v : Vec OddArea Global). v.items) w.kept-is)
    ]
