-- Numbers and their spellings. A text is a list of bytes: 45 is a minus, 46 a point and 48 the digit zero.
use Rattle.std.specs.Prelude.{◌≡◌, ℕ, zero, suc, Bool, if◌then◌else◌, List, [], ◌∷◌, ◌++◌, length, slice_index, replicate, false, ◌↔◌, ℤ, pos, neg_ℤ, FitsSigned}
use Rattle.std.specs.Int.{w64, w128}
use Rattle.std.specs.Fmt.{signed_decimal}
use Rattle.std.specs.Str.Parse.{IsNumeral, digits_value}
use Rattle.agg_base.specs.declared.numeral.Whole.{Whole}
use Rattle.agg_base.specs.declared.numeral.Whole.TheVariants.{Not, Beyond, Is}

-- a minus, where there is one
abbrev pub minus_text : Bool → List ℕ
minus_text minus = if minus then 45 ∷ [] else []

-- nothing, or a point with that many zeros
abbrev pub zeros_text : ℕ → List ℕ
zeros_text zero = []
zeros_text (suc more) = 46 ∷ replicate (suc more) 48

-- the number of a sign and decimal digits
abbrev pub number_of : Bool → List ℕ → ℤ
number_of minus digits = if minus then neg_ℤ (pos (digits_value 10 digits)) else pos (digits_value 10 digits)

-- The text is an optional minus and one or more decimal digits, and n is its value.
pub record SpellsNumber (text : List ℕ) (n : ℤ) : Type 0 where
  pub minus : Bool
  pub digits : List ℕ
  pub numeral : IsNumeral 10 digits
  pub parts : text ≡ minus_text minus ++ digits
  pub value : n ≡ number_of minus digits

-- The text is an optional minus and decimal digits without a needless zero in front. Zero is `0` alone, and n is the value.
pub record SpellsPlainly (text : List ℕ) (n : ℤ) : Type 0 where
  pub number : SpellsNumber text n
  pub no_needless_zero : slice_index number.digits 0 ≡ 48 → (length number.digits ≡ 1) × (number.minus ≡ false)

-- each number of 128 bits has one plain spelling, the text that `signed_decimal` of std computes
abbrev pub OnePlainSpelling : Type 0
OnePlainSpelling = (text : List ℕ) (n : ℤ) → FitsSigned w128 n → (text ≡ signed_decimal n) ↔ SpellsPlainly text n

-- The text is an optional minus, one or more decimal digits, and optionally a point with one or more zeros. Its value is n.
pub record SpellsWhole (text : List ℕ) (n : ℤ) : Type 0 where
  pub front : List ℕ
  pub zeros : ℕ
  pub number : SpellsNumber front n
  pub parts : text ≡ front ++ zeros_text zeros

-- a text spells one whole number at most
abbrev pub OneWhole : Type 0
OneWhole = (text : List ℕ) (m n : ℤ) → SpellsWhole text m → SpellsWhole text n → m ≡ n

-- `Not` is the answer where the text spells no whole number, `Beyond` where its number is outside 64 bits, and else it is the number.
abbrev pub IsWholeAnswer : (ℤ → Type 0) → Whole → Type 0
IsWholeAnswer Spells Not = (n : ℤ) → ¬ (Spells n)
IsWholeAnswer Spells Beyond = (n : ℤ) × Spells n × ¬ (FitsSigned w64 n)
IsWholeAnswer Spells (Is n) = Spells n × FitsSigned w64 n
