-- Numbers that a grid spells. Byte 45 is the minus.
use Rattle.std.specs.Prelude.{◌≡◌, ◌≢◌, ◌≤◌, ℕ, List, length, slice_index, ℤ, pos, neg_ℤ, ◌≤ℤ◌}
use Rattle.std.specs.Str.Parse.{IsNumeral, digits_value}
use Rattle.agg_base.specs.declared.limits.TheConstants.{CELLS}
use Rattle.agg_base.specs.Numbers.{SpellsWhole}
use Rattle.json_text.specs.Numbers.{IsJsonNumber}

-- one or more digits, zeros in front or not, that spell a number from 1 to 524,288
pub record IsCount (digits : List ℕ) (n : ℕ) : Type 0 where
  pub numeral : IsNumeral 10 digits
  pub value : digits_value 10 digits ≡ n
  pub least : 1 ≤ n
  pub most : n ≤ CELLS

-- a whole number that is at most 2,147,483,647 from 0
pub record SpellsCell (text : List ℕ) (z : ℤ) : Type 0 where
  pub whole : SpellsWhole text z
  pub least : neg_ℤ (pos 2147483647) ≤ℤ z
  pub most : z ≤ℤ pos 2147483647

-- a number of JSON of at most 100 bytes
pub record IsCornerText (text : List ℕ) : Type 0 where
  pub number : IsJsonNumber text
  pub few : length text ≤ 100

-- a number of JSON of at most 100 bytes that does not begin with a minus
pub record IsSizeText (text : List ℕ) : Type 0 where
  pub number : IsJsonNumber text
  pub few : length text ≤ 100
  pub no_minus : slice_index text 0 ≢ 45
