use Rattle.topo_reader.proofs.head.object_of.Goals as goal

pub returns-in-None-clause-none : goal.returns-in-None-clause-none
returns-in-None-clause-none c = rw c.in-None.is c.only.ensures.none
