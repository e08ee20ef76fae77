-- Walks through equal cells along common sides. Cells are counted row by row, from the top, so that a cell has the next number in its row
-- and a number greater by the columns below it.
use Rattle.std.specs.Prelude.{◌≡◌, ◌≢◌, ℕ, zero, suc, ◌+◌, ◌%◌, ◌<◌, ◌⊎◌, length}
use Rattle.grid_reader.specs.Grid.{Grid, value_at}

-- cell j stands to the right of cell i: it is the next one, and does not begin a row
abbrev pub IsRightOf : Grid → ℕ → ℕ → Type 0
IsRightOf g i j = (j ≡ i + 1) × (j % g.columns ≢ 0)

-- cell j stands below cell i
abbrev pub IsBelow : Grid → ℕ → ℕ → Type 0
IsBelow g i j = j ≡ i + g.columns

-- the cells have the same value, which is data
pub record HaveOneValue (g : Grid) (i j : ℕ) : Type 0 where
  pub inside : j < length g.cells
  pub equal : value_at g i ≡ value_at g j
  pub data_value : value_at g j ≢ g.nodata

-- cell j has a side in common with cell i, to the right or below, and the same value
abbrev pub Leads : Grid → ℕ → ℕ → Type 0
Leads g i j = (IsRightOf g i j ⊎ IsBelow g i j) × HaveOneValue g i j

-- the cells have a side in common and the same value
abbrev pub Adjoin : Grid → ℕ → ℕ → Type 0
Adjoin g i j = Leads g i j ⊎ Leads g j i

-- from cell i to cell j in n steps, each to a cell of the same value along a common side
abbrev pub Walk : Grid → ℕ → ℕ → ℕ → Type 0
Walk g j i zero = i ≡ j
Walk g j i (suc n) = (k : ℕ) × Adjoin g i k × Walk g j k n

-- a walk leads from cell i to cell j
abbrev pub InOnePatch : Grid → ℕ → ℕ → Type 0
InOnePatch g i j = (n : ℕ) × Walk g j i n
