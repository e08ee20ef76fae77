use Rattle.std.proofs.Common.{◌≡◌, ◌++◌, flat_map}
use Rattle.edge_rows.specs.Banks.{pieces_of_row}
use Rattle.edge_rows.specs.Whole.{pieces_of_bank}
use Rattle.edge_rows.proofs.laying.banks_of.Given as goal

abbrev pub invariant-loop-row : goal.invariant-loop-row
invariant-loop-row l = flat_map pieces_of_bank l.banks.items ++ pieces_of_bank l.bank ≡ flat_map pieces_of_row l.yielded
