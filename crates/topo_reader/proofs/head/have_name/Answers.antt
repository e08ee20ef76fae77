use Rattle.std.proofs.Common.{refl}
use Rattle.json_text.proofs.Cases.{false_true}
use Rattle.topo_reader.proofs.HeadLemmas.{named_more, named_there}
use Rattle.topo_reader.proofs.head.have_name.Goals as goal

pub returns-then-not-is_name : goal.returns-then-not-is_name
returns-then-not-is_name c = (
  λ never. false_true never,
  λ all. c.if-not-is_name.ensures.1 (named_there c.args.members.now c.args.name.now c.loop-member.member-index c.member-item.result c.loop-member-test.true c.member-item.is all),
)

pub loop-member-preserved : goal.loop-member-preserved
loop-member-preserved c =
    named_more c.args.members.now c.args.name.now c.loop-member.member-index c.member-item.result c.loop-member-test.true c.member-item.is c.loop-member.invariant (c.if-not-is_name.ensures.0 refl)
