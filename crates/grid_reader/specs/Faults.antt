-- The first fault of a text that spells no grid.
use Rattle.std.specs.Prelude.{◌≡◌, ◌≢◌, ℕ, ℤ, List, length, take}
use Rattle.std.specs.List.{AllZip}
use Rattle.grid_reader.specs.Numbers.{SpellsCell}
use Rattle.grid_reader.specs.Cells.{IsBadCell}
use Rattle.plane_edge.specs.declared.frame.Limit.TheVariants.{Areas}
use Rattle.grid_reader.specs.Grid.{Grid}
use Rattle.grid_reader.specs.Areas.{HasManyPatches}
use Rattle.grid_reader.specs.declared.fault.GridFault.{GridFault}
use Rattle.grid_reader.specs.declared.fault.GridFault.TheVariants.{Header, Centred, Cell, Count, Limit, Memory}

-- the grid has too many patches
abbrev pub IsPatchFault : Grid → GridFault → Type 0
IsPatchFault g Memory = ⊥
IsPatchFault g (Header line) = ⊥
IsPatchFault g (Centred line) = ⊥
IsPatchFault g (Cell row column) = ⊥
IsPatchFault g (Count found) = ⊥
IsPatchFault g (Limit limit) = (limit ≡ Areas) × HasManyPatches g

-- a word spells no cell, unless memory ran out
abbrev pub IsCellFault : ℕ → ℕ → List (List ℕ) → GridFault → Type 0
IsCellFault columns total parts Memory = Unit {0}
IsCellFault columns total parts (Header line) = ⊥
IsCellFault columns total parts (Centred line) = ⊥
IsCellFault columns total parts (Cell row column) = IsBadCell columns total parts row column
IsCellFault columns total parts (Count found) = ⊥
IsCellFault columns total parts (Limit limit) = ⊥

-- The words that there are spell cells, as far as there are cells, and their number is another one.
pub record IsOtherCount (total : ℕ) (parts : List (List ℕ)) (found : ℕ) : Type 0 where
  pub values : List ℤ
  pub before : AllZip SpellsCell (take total parts) values
  pub found_is : found ≡ length parts
  pub other : found ≢ total

abbrev pub IsCountFault : ℕ → List (List ℕ) → GridFault → Type 0
IsCountFault total parts Memory = ⊥
IsCountFault total parts (Header line) = ⊥
IsCountFault total parts (Centred line) = ⊥
IsCountFault total parts (Cell row column) = ⊥
IsCountFault total parts (Count found) = IsOtherCount total parts found
IsCountFault total parts (Limit limit) = ⊥
