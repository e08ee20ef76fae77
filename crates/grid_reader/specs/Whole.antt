-- What a whole header says, and what one may lack.
use Rattle.std.specs.Prelude.{◌≡◌, ◌⊎◌, ◌<◌, ◌*◌, ℕ, List, Some, None, unwrap_or, pos, neg_ℤ}
use Rattle.agg_base.specs.declared.limits.TheConstants.{CELLS}
use Rattle.plane_edge.specs.declared.frame.Limit.TheVariants.{Cells}
use Rattle.plane_edge.specs.declared.frame.Frame.TheVariants.{Scaled}
use Rattle.grid_reader.specs.Header.{Draft}
use Rattle.grid_reader.specs.declared.whole.Whole.{Whole}
use Rattle.grid_reader.specs.declared.fault.GridFault.{GridFault}
use Rattle.grid_reader.specs.declared.fault.GridFault.TheVariants.{Header, Centred, Cell, Count, Limit, Memory}

-- a word other than the value for no data is missing
abbrev pub LacksWord : Draft → Type 0
LacksWord h = (h.columns ≡ None) ⊎ (h.rows ≡ None) ⊎ (h.left ≡ None) ⊎ (h.low ≡ None) ⊎ (h.size ≡ None)

-- The header says these columns and rows, and the value for no data, which is -9999 where it says none. The frame has the size of cells twice
-- and the left and the low end of the grid, with the same characters.
pub record SaysWhole (h : Draft) (w : Whole) : Type 0 where
  pub left : List ℕ
  pub low : List ℕ
  pub size : List ℕ
  pub columns_are : h.columns ≡ Some w.columns
  pub rows_are : h.rows ≡ Some w.rows
  pub nodata_is : w.nodata ≡ unwrap_or h.nodata (neg_ℤ (pos 9999))
  pub left_is : h.left ≡ Some left
  pub low_is : h.low ≡ Some low
  pub size_is : h.size ≡ Some size
  pub frame_is : w.frame ≡ Scaled size size left low

-- the columns times the rows pass the limit of cells
pub record HasManyCells (h : Draft) : Type 0 where
  pub columns : ℕ
  pub rows : ℕ
  pub columns_are : h.columns ≡ Some columns
  pub rows_are : h.rows ≡ Some rows
  pub many : CELLS < columns * rows

-- the header that ends at that line lacks a word, or else has too many cells
abbrev pub IsEndFault : Draft → ℕ → GridFault → Type 0
IsEndFault h number Memory = ⊥
IsEndFault h number (Header line) = (line ≡ number) × LacksWord h
IsEndFault h number (Centred line) = ⊥
IsEndFault h number (Cell row column) = ⊥
IsEndFault h number (Count found) = ⊥
IsEndFault h number (Limit limit) = (limit ≡ Cells) × ¬ (LacksWord h) × HasManyCells h
