-- The cells that the words behind the header spell.
use Rattle.std.specs.Prelude.{◌≡◌, ℕ, ◌+◌, ◌*◌, ◌<◌, List, [], ◌∷◌, ◌++◌, length, take, ℤ}
use Rattle.std.specs.List.{AllZip}
use Rattle.agg_base.specs.Lines.{Row}
use Rattle.text_words.specs.Words.{gap_words, word}
use Rattle.grid_reader.specs.Numbers.{SpellsCell}
use Rattle.grid_reader.specs.declared.cells.Cells.{Cells}

-- the words of the lines behind the header
abbrev pub body_words : List Row → List (List ℕ)
body_words [] = []
body_words (row ∷ rows) = gap_words row.text ++ body_words rows

-- the words were counted, and the values are those that the first of them spell, as many as there are cells at most
pub record HasTaken (cells : Cells) (parts : List (List ℕ)) : Type 0 where
  pub count : cells.found ≡ length parts
  pub values_are : AllZip SpellsCell (take cells.total parts) cells.values.items

-- The words before the one of this row and column spell cells, and this word spells none. It is among as many as there are cells.
pub record IsBadCell (columns total : ℕ) (parts : List (List ℕ)) (row column : ℕ) : Type 0 where
  pub values : List ℤ
  pub before : AllZip SpellsCell (take (row * columns + column) parts) values
  pub in_row : column < columns
  pub inside : row * columns + column < total
  pub present : row * columns + column < length parts
  pub bad : (z : ℤ) → ¬ (SpellsCell (word parts (row * columns + column)) z)
