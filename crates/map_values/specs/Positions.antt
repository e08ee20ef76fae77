-- Positions, and their numbers.
use Rattle.std.specs.Prelude.{◌≡◌, ℕ, List, ◌∷◌, ℤ}
use Rattle.agg_base.specs.Numbers.{SpellsWhole}
use Rattle.json_text.specs.Tree.{Json, Number, array}

-- a number of JSON that is whole
pub record SpellsInteger (tree : Json) (n : ℤ) : Type 0 where
  pub number : List ℕ
  pub is : tree ≡ Number number
  pub whole : SpellsWhole number n

-- a list that begins with two numbers, which have these characters
pub record BeginsWithNumbers (tree : Json) (first second : List ℕ) : Type 0 where
  pub more : List Json
  pub list : tree ≡ array (Number first ∷ Number second ∷ more)

-- a list that begins with two whole numbers
pub record SpellsPosition (tree : Json) (x y : ℤ) : Type 0 where
  pub first : List ℕ
  pub second : List ℕ
  pub more : List Json
  pub list : tree ≡ array (Number first ∷ Number second ∷ more)
  pub x_is : SpellsWhole first x
  pub y_is : SpellsWhole second y
