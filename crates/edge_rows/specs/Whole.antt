-- The pieces of all rows.
use Rattle.std.specs.Prelude.{List}
use Rattle.std.specs.List.{flat_map}
use Rattle.edge_rows.specs.declared.bank.Bank.{Bank}
use Rattle.edge_rows.specs.declared.piece.Piece.{Piece}
use Rattle.edge_rows.specs.Banks.{pieces_of_row}

-- the pieces of a bank, row by row
abbrev pub pieces_of_bank : Bank → List Piece
pieces_of_bank b = flat_map pieces_of_row b.rows.items
