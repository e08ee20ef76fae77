-- Faults of words of cells.
use Rattle.std.proofs.Common.{ℕ, List}
use Rattle.grid_reader.specs.Faults.{IsCellFault}
use Rattle.grid_reader.specs.Body.{IsBodyFault}
use Rattle.grid_reader.specs.Reading.{UnlessMemory}
use Rattle.grid_reader.specs.declared.fault.GridFault.{GridFault}
use Rattle.grid_reader.specs.declared.fault.GridFault.TheVariants.{Header, Centred, Cell, Count, Limit, Memory}

-- a word that spells no cell is a fault of the body, unless memory ran out
pub cell_body : (columns total : ℕ) (parts : List (List ℕ)) (fault : GridFault) → IsCellFault columns total parts fault → UnlessMemory fault (IsBodyFault columns total parts fault)
cell_body columns total parts Memory h = tt
cell_body columns total parts (Header line) h = h
cell_body columns total parts (Centred line) h = h
cell_body columns total parts (Cell row column) h = h
cell_body columns total parts (Count found) h = absurd h
cell_body columns total parts (Limit limit) h = h
