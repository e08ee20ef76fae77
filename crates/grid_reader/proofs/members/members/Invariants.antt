use Rattle.grid_reader.specs.Patches.{number_at}
use Rattle.grid_reader.specs.Members.{AreMembers}
use Rattle.agg_base.specs.Lists.{lists_of}
use Rattle.grid_reader.proofs.members.members.Given as goal

abbrev pub invariant-loop-cell : goal.invariant-loop-cell
invariant-loop-cell l = AreMembers (number_at l.numbered.numbers.items) l.cell l.numbered.count (lists_of l.members.items)
