-- Grids of cells.
use Rattle.std.specs.Prelude.{◌≡◌, ℕ, ◌*◌, ◌≤◌, List, length, slice_index_or, ℤ, pos}
use Rattle.agg_base.specs.declared.limits.TheConstants.{CELLS}

-- the cells row by row, the top row first, and the value that stands for no data
pub record Grid : Type 0 where
  pub columns : ℕ
  pub rows : ℕ
  pub nodata : ℤ
  pub cells : List ℤ

-- the value of cell i
abbrev pub value_at : Grid → ℕ → ℤ
value_at g i = slice_index_or g.cells i (pos 0)

-- what every grid keeps: there is a row and a column, each row has a cell in each column, and there are at most 524,288 cells
pub record IsGrid (g : Grid) : Type 0 where
  pub some_column : 1 ≤ g.columns
  pub some_row : 1 ≤ g.rows
  pub shape : length g.cells ≡ g.columns * g.rows
  pub few : length g.cells ≤ CELLS
