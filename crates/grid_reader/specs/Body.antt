-- The cells of a whole body.
use Rattle.std.specs.Prelude.{ℕ, List, [], ◌∷◌, Option, Some, None}
use Rattle.agg_base.specs.Lines.{Row, row, rows_left}
use Rattle.agg_base.specs.declared.line.Line.{Line}
use Rattle.agg_base.specs.declared.line.Lines.{Lines}
use Rattle.grid_reader.specs.Cells.{IsBadCell}
use Rattle.grid_reader.specs.Faults.{IsOtherCount}
use Rattle.grid_reader.specs.declared.fault.GridFault.{GridFault}
use Rattle.grid_reader.specs.declared.fault.GridFault.TheVariants.{Header, Centred, Cell, Count, Limit, Memory}

-- the first line of cells and those that are left behind it
abbrev pub body_of : Option Line → Lines → List Row
body_of None rest = []
body_of (Some line) rest = row line ∷ rows_left rest

-- the first word that spells no cell, or else the number of words where it is not that of the cells
abbrev pub IsBodyFault : ℕ → ℕ → List (List ℕ) → GridFault → Type 0
IsBodyFault columns total parts Memory = ⊥
IsBodyFault columns total parts (Header line) = ⊥
IsBodyFault columns total parts (Centred line) = ⊥
IsBodyFault columns total parts (Cell row column) = IsBadCell columns total parts row column
IsBodyFault columns total parts (Count found) = IsOtherCount total parts found
IsBodyFault columns total parts (Limit limit) = ⊥
