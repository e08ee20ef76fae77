use Rattle.std.proofs.Common.{ℕ, subst, sym, arith}
use Rattle.bound_rows.specs.Scratch.{AreMarks}
use Rattle.bound_rows.proofs.MemberLemmas.{mark_next}
use Rattle.bound_rows.proofs.scratch.mark_members.Goals as goal

pub loop-area-preserved : goal.loop-area-preserved
loop-area-preserved c =
    let p = c.args.problem.now in
    let old = c.loop-area.marks in
    let inv = c.loop-area.invariant in
    let n = inv.0.count_is in (
      subst (λ (x : ℕ). AreMarks x c.mark.new.self) n (c.mark.ensures.marks (subst (λ (x : ℕ). AreMarks x old) (sym n) inv.0)),
      mark_next p c.args.set.now c.loop-area.area-index old c.mark.new.self c.loop-area-test.true (λ v hv. c.mark.ensures.mark v (omega (arith, n))) inv.1,
    )
