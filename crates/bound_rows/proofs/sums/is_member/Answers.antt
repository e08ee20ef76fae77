use Rattle.std.proofs.Common.{◌≡◌, true, sym, subst, ℕ}
use Rattle.row_laws.specs.Rows.{is_in}
use Rattle.bound_rows.proofs.MemberLemmas.{is_in_index, not_in_next}
use Rattle.bound_rows.proofs.sums.is_member.Goals as goal

pub returns-then-member-area : goal.returns-then-member-area
returns-then-member-area c =
    sym (subst (λ (x : ℕ). is_in c.args.set.now x ≡ true) c.if-member-area.true (is_in_index c.args.set.now c.loop-member.member-index c.loop-member-test.true))

pub loop-member-preserved : goal.loop-member-preserved
loop-member-preserved c =
    not_in_next c.args.set.now c.loop-member.member-index c.args.area c.loop-member-test.true c.if-member-area.false c.loop-member.invariant
