-- The pairs of cells that are joined, cell by cell.
use Rattle.std.specs.Prelude.{ℕ, ◌<◌, List}
use Rattle.std.specs.List.{Contains}
use Rattle.union_find.specs.Sets.{AreSets}
use Rattle.grid_reader.specs.Grid.{Grid}
use Rattle.grid_reader.specs.Walks.{IsRightOf, IsBelow, HaveOneValue, Leads}

-- Each pair has a common side and one value. Cells with one value that lead to the right to a cell before one bound, or down to a cell before the
-- other, are a pair.
pub record AreJoins (g : Grid) (right under : ℕ) (pairs : List (ℕ × ℕ)) : Type 0 where
  pub only : (i j : ℕ) → Contains pairs (i, j) → Leads g i j
  pub right_done : (i j : ℕ) → j < right → IsRightOf g i j → HaveOneValue g i j → Contains pairs (i, j)
  pub under_done : (i j : ℕ) → j < under → IsBelow g i j → HaveOneValue g i j → Contains pairs (i, j)

-- the list has the least cell of each set that such pairs join
abbrev pub IsJoined : Grid → ℕ → ℕ → List ℕ → Type 0
IsJoined g right under heads = (pairs : List (ℕ × ℕ)) × AreJoins g right under pairs × AreSets pairs heads
