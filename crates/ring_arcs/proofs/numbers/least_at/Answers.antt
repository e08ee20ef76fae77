use Rattle.std.proofs.Common.{ℕ, ◌+◌, ◌<◌, sym, ◌∙◌, subst, arith, pos, length, get_or}
use Rattle.std.proofs.lemmas.List.{get_or_default}
use Rattle.ring_arcs.specs.Numbers.{IsLeastAt}
use Rattle.ring_arcs.proofs.NumberLemmas.{least_taken, least_kept}
use Rattle.ring_arcs.proofs.numbers.least_at.Goals as goal
use Rattle.ring_arcs.proofs.numbers.least_at.Goals.{then-is_before, else-is_before}

pub loop-at-preserved : goal.loop-at-preserved
loop-at-preserved c =
    let xs = c.args.indexes.now in
    let at = c.loop-at.at in
    let best = c.loop-at.best in
    let behind : best < at = c.loop-at.invariant.behind in
    let inside : at < length xs = c.loop-at-test.true in
    let here = get_or_default xs at (pos 0) (get_or xs at (pos 0)) inside in
    let there = get_or_default xs best (pos 0) (get_or xs best (pos 0)) (omega arith) in
    record {
      behind = elim c.if-is_before.branch [
        | then-is_before w ↦ subst (λ (b : ℕ). b < at + 1) (sym w.best-is) (omega arith)
        | else-is_before w ↦ subst (λ (b : ℕ). b < at + 1) (sym w.best-is) (omega arith)
      ];
      least = elim c.if-is_before.branch [
        | then-is_before w ↦ subst (IsLeastAt xs (at + 1)) (sym w.best-is) (least_taken xs at best (get_or xs at (pos 0)) (get_or xs best (pos 0)) inside behind here there (sym c.is_before.ensures ∙ w.if-is_before.true) c.loop-at.invariant.least)
        | else-is_before w ↦ subst (IsLeastAt xs (at + 1)) (sym w.best-is) (least_kept xs at best (get_or xs at (pos 0)) (get_or xs best (pos 0)) inside behind here there (sym c.is_before.ensures ∙ w.if-is_before.false) c.loop-at.invariant.least)
      ];
    }
