use Rattle.std.proofs.Common.{◌≡◌, ◌+◌, ap, sym, ◌∙◌, arith, take}
use Rattle.row_laws.specs.Values.{row_marks, mark_count}
use Rattle.bound_rows.proofs.MarkLemmas.{mark_count-more}
use Rattle.bound_rows.proofs.sizes.marks.Goals as goal

pub loop-row-preserved : goal.loop-row-preserved
loop-row-preserved c =
    let rows = c.deref-row-items.result.now in
    let i = c.loop-row.row-index in
    let before = c.loop-row.invariant in
    let one = c.marks_of.ensures in
    let sum = c.saturating_add-count.ensures in
    let more : mark_count (take (i + 1) rows) ≡ mark_count (take i rows) + row_marks c.loop-row-item.result.0 =
    mark_count-more rows i c.loop-row-item.result c.loop-row-test.true ∙ ap (λ r. mark_count (take i rows) + row_marks r.0) (sym c.loop-row-item.is) in
    omega arith
