-- The class texts of areas.
use Rattle.std.specs.Prelude.{◌≡◌, ◌≤◌, ℕ, List, length, Some, codes, ℤ, FitsSigned}
use Rattle.std.specs.Int.{w64}
use Rattle.std.specs.Fmt.{signed_decimal}
use Rattle.agg_base.specs.Numbers.{SpellsWhole}
use Rattle.json_text.specs.Tree.{Json, Number, Str, member_of}

-- a class text: a text of 1 to 100 bytes, or a whole number of 64 bits, which stands for its decimal spelling
pub data SpellsClass (tree : Json) (class : List ℕ) : Type 0 where
  by_text : tree ≡ Str class → 1 ≤ length class → length class ≤ 100 → SpellsClass tree class
  by_number : (digits : List ℕ) (n : ℤ) → tree ≡ Number digits → SpellsWhole digits n → FitsSigned w64 n → class ≡ signed_decimal n → SpellsClass tree class

-- the member `properties` has a member of that name, which spells the class text
pub record HasClass (tree : Json) (name class : List ℕ) : Type 0 where
  pub properties : Json
  pub value : Json
  pub properties_are : member_of tree (codes "properties") ≡ Some properties
  pub value_is : member_of properties name ≡ Some value
  pub class_is : SpellsClass value class
