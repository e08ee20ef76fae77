use Rattle.std.proofs.Common.{sym, ◌∙◌}
use Rattle.row_laws.proofs.Tests.{clash}
use Rattle.std.specs.Prelude.{slice_index}
use Rattle.bound_rows.proofs.MemberLemmas.{is_in_index, no_owner_next}
use Rattle.bound_rows.proofs.sums.has_no_owner.Goals as goal

pub returns-then-own-class : goal.returns-then-own-class
returns-then-own-class c =
    let i = c.loop-member.member-index in
    let member = slice_index c.args.set.now i in
    (λ f. clash f, λ none. absurd (none member (c.requires i c.loop-member-test.true) (is_in_index c.args.set.now i c.loop-member-test.true) (sym c.own.ensures.value ∙ c.if-own-class.true)))

pub loop-member-preserved : goal.loop-member-preserved
loop-member-preserved c =
    no_owner_next c.args.problem.now c.args.set.now c.loop-member.member-index c.args.class c.own.result c.loop-member-test.true c.own.ensures.value c.if-own-class.false c.loop-member.invariant
