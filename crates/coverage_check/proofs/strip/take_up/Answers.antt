use Rattle.std.proofs.Common.{◌≡◌, ◌∙◌, ap, arith, rules, true, false, FitsSigned, w32, Vec, Global, get_or, int_le}
use Rattle.std.proofs.lemmas.Int.{to_z-of_z}
use Rattle.coverage_check.specs.declared.border.Border.{Border}
use Rattle.coverage_check.proofs.ActiveLemmas.{taken, step_up, step_past, stopped}
use Rattle.coverage_check.proofs.strip.take_up.Goals as goal
use Rattle.coverage_check.proofs.strip.take_up.Goals.{then-high-borders+in_ok-push, else-high-borders}

pub loop-at-preserved : goal.loop-at-preserved
loop-at-preserved c =
    let fl : FitsSigned w32 c.args.low = c.ranges.low in
    let fh : FitsSigned w32 c.args.high = c.ranges.high in
    let bs = c.args.borders.now in
    let at = c.loop-at.at in
    let d = c.index-borders-at.result in
    let e = c.index-borders-at-in-loop-at.result in
    let low : FitsSigned w32 (get_or bs at d).edge.low.y = search rules in
    let high : FitsSigned w32 (get_or bs at e).edge.high.y = search rules in
    let t = simp to_z-of_z at c.loop-at.invariant in
    let r : int_le (get_or bs at d).edge.low.y c.args.low ≡ true = simp to_z-of_z at c.if-borders-at.true in
    simp to_z-of_z (elim c.if-high-borders.branch [
      | then-high-borders+in_ok-push w ↦
          let b = w.index-borders-at-then-high-borders.result in
          let u : int_le c.args.high (get_or bs at e).edge.high.y ≡ true = simp to_z-of_z at w.if-high-borders.true in
          step_up bs c.args.from at c.args.low c.args.high c.args.active.now.items c.loop-at.active.items c.if-high-borders.active.items b d e t c.loop-at-test.true w.index-borders-at-then-high-borders.is r u
          (ap (λ (v : Vec Border Global). v.items) w.active-is ∙ w.in_ok-push.ensures.items)
      | else-high-borders w ↦
          let u : int_le c.args.high (get_or bs at e).edge.high.y ≡ false = simp to_z-of_z at w.if-high-borders.false in
          step_past bs c.args.from at c.args.low c.args.high c.args.active.now.items c.loop-at.active.items c.if-high-borders.active.items d e t c.loop-at-test.true r u
          (ap (λ (v : Vec Border Global). v.items) w.active-is)
    ])

pub returns-else-borders-at : goal.returns-else-borders-at
returns-else-borders-at c =
    let fl : FitsSigned w32 c.args.low = c.ranges.low in
    let fh : FitsSigned w32 c.args.high = c.ranges.high in
    let bs = c.args.borders.now in
    let at = c.loop-at.at in
    let d = c.index-borders-at.result in
    let low : FitsSigned w32 (get_or bs at d).edge.low.y = search rules in
    let t = simp to_z-of_z at c.loop-at.invariant in
    let r : int_le (get_or bs at d).edge.low.y c.args.low ≡ false = simp to_z-of_z at c.if-borders-at.false in
    stopped bs c.args.from at c.args.low c.args.high c.args.active.now.items c.loop-at.active.items d t (λ _. r)

pub returns-after-loop-at : goal.returns-after-loop-at
returns-after-loop-at c =
    let fl : FitsSigned w32 c.args.low = c.ranges.low in
    let fh : FitsSigned w32 c.args.high = c.ranges.high in
    let t = simp to_z-of_z at c.loop-at.invariant in
    taken c.args.borders.now c.args.from c.loop-at.at c.args.low c.args.high c.args.active.now.items c.loop-at.active.items t (λ d l. absurd (omega (arith, c.loop-at-test.false)))
