-- The patches of a grid: the cells that walks join, numbered by their first cells.
use Rattle.std.specs.Prelude.{◌≡◌, ◌↔◌, ℕ, ◌<◌, ◌≤◌, List, length, slice_index_or, Option, Some, None}
use Rattle.grid_reader.specs.Grid.{Grid, value_at}
use Rattle.grid_reader.specs.Walks.{InOnePatch}

-- the number that a list of numbers has for cell i
abbrev pub number_at : List (Option ℕ) → ℕ → Option ℕ
number_at numbers i = slice_index_or numbers i None

-- The first n cells have their patches' numbers: none exactly where a cell has no data, the same number exactly where a walk leads, and each
-- number only behind a cell of each lesser number. So patches are numbered from 0 by their first cells, and there are so many of them.
pub record AreNumbered (g : Grid) (n : ℕ) (number : ℕ → Option ℕ) (count : ℕ) : Type 0 where
  pub no_data : (i : ℕ) → i < n → (number i ≡ None) ↔ (value_at g i ≡ g.nodata)
  pub one_patch : (i j p q : ℕ) → i < n → j < n → number i ≡ Some p → number j ≡ Some q → (p ≡ q) ↔ InOnePatch g i j
  pub in_order : (i p q : ℕ) → i < n → number i ≡ Some p → q < p → (j : ℕ) × (j < i) × (number j ≡ Some q)
  pub below : (i p : ℕ) → i < n → number i ≡ Some p → p < count
  pub all : (p : ℕ) → p < count → (i : ℕ) × (i < n) × (number i ≡ Some p)

-- the numbers of the patches of all cells
abbrev pub ArePatches : Grid → (ℕ → Option ℕ) → ℕ → Type 0
ArePatches g number count = AreNumbered g (length g.cells) number count

-- the leader of a cell is the first cell of its patch
pub record AreLeaders (g : Grid) (leader : ℕ → ℕ) : Type 0 where
  pub one_patch : (i j : ℕ) → i < length g.cells → j < length g.cells → (leader i ≡ leader j) ↔ InOnePatch g i j
  pub itself : (i : ℕ) → i < length g.cells → InOnePatch g i (leader i)
  pub low : (i : ℕ) → i < length g.cells → leader i ≤ i
