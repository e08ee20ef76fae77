-- Numbers by the grammar of RFC 8259. Byte 45 is the minus, 43 the plus, 46 the point, 48 the zero, and 69 and 101 are the letters E and e.
use Rattle.std.specs.Prelude.{◌≡◌, ◌≢◌, ◌⊎◌, ℕ, List, [], ◌∷◌, ◌++◌, slice_index}
use Rattle.std.specs.Str.Parse.{IsNumeral}

-- a minus or nothing
abbrev pub IsMinus : List ℕ → Type 0
IsMinus text = (text ≡ []) ⊎ (text ≡ 45 ∷ [])

-- a zero alone, or digits of which the first is no zero
abbrev pub IsWholePart : List ℕ → Type 0
IsWholePart text = (text ≡ 48 ∷ []) ⊎ (IsNumeral 10 text × (slice_index text 0 ≢ 48))

-- nothing, or a point and digits
abbrev pub IsFraction : List ℕ → Type 0
IsFraction text = (text ≡ []) ⊎ ((digits : List ℕ) × IsNumeral 10 digits × (text ≡ 46 ∷ digits))

-- a letter e, a sign or none, and digits
pub record HasExponent (text : List ℕ) : Type 0 where
  pub letter : ℕ
  pub sign : List ℕ
  pub digits : List ℕ
  pub letter_is : (letter ≡ 101) ⊎ (letter ≡ 69)
  pub sign_is : (sign ≡ []) ⊎ (sign ≡ 43 ∷ []) ⊎ (sign ≡ 45 ∷ [])
  pub numeral : IsNumeral 10 digits
  pub parts : text ≡ letter ∷ (sign ++ digits)

-- nothing, or an exponent
abbrev pub IsExponent : List ℕ → Type 0
IsExponent text = (text ≡ []) ⊎ HasExponent text

-- a minus or none, a whole part, a fraction or none, and an exponent or none
pub record IsJsonNumber (text : List ℕ) : Type 0 where
  pub minus : List ℕ
  pub whole : List ℕ
  pub fraction : List ℕ
  pub exponent : List ℕ
  pub minus_is : IsMinus minus
  pub whole_is : IsWholePart whole
  pub fraction_is : IsFraction fraction
  pub exponent_is : IsExponent exponent
  pub parts : text ≡ minus ++ (whole ++ (fraction ++ exponent))
