use Rattle.shelf_io.proofs.NameLemmas.{DifferBelow}
use Rattle.shelf_io.proofs.names.are_names_distinct.Given as goal

abbrev pub invariant-loop-at : goal.invariant-loop-at
invariant-loop-at l = DifferBelow l.at l.files
