use Rattle.topo_reader.proofs.HeadLemmas.{begin_with, begin_none}
use Rattle.topo_reader.proofs.head.first_name.Goals as goal

pub returns-in_default-clause-none : goal.returns-in_default-clause-none
returns-in_default-clause-none c = begin_none c.args.members.now c.in_default.ensures.value

pub returns-clause-found : goal.returns-clause-found
returns-clause-found c = begin_with c.args.members.now c.in-Some.member.now c.name_of.result.now c.in-Some.ensures.value c.name_of.ensures
