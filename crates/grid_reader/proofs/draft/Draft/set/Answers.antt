use Rattle.grid_reader.proofs.draft.Draft.set.Goals as goal

pub returns-in-Left-clause-unset : goal.returns-in-Left-clause-unset
returns-in-Left-clause-unset c = rw c.in-Left.is c.set_left.ensures.unset

pub returns-in-Low-clause-unset : goal.returns-in-Low-clause-unset
returns-in-Low-clause-unset c = rw c.in-Low.is c.set_low.ensures.unset
