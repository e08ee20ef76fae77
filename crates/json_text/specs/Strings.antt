-- Texts in quotes by the grammar of RFC 8259. Byte 34 is the quote, 92 the backslash, 47 the slash and 117 the letter u; a control character is below 32.
use Rattle.std.specs.Prelude.{◌≡◌, ◌≢◌, ◌≤◌, ◌==◌, ◌||◌, if◌then◌else◌, ℕ, true, List, [], ◌∷◌, ◌++◌, length, Contains, flat_map}
use Rattle.std.specs.List.{AllByRecursion}
use Rattle.std.specs.Char.{IsScalar, encode_utf8}
use Rattle.std.specs.Char.Utf16.{is_high_surrogate, is_low_surrogate, surrogate_pair_char}
use Rattle.std.specs.Str.Parse.{AllDigits, digits_value}

-- the letters that may stand behind a backslash, and the characters that they stand for: the quote, the backslash and the slash for themselves, and b, f, n, r and t
abbrev pub short_escapes : List (ℕ × ℕ)
short_escapes = (34, 34) ∷ (92, 92) ∷ (47, 47) ∷ (98, 8) ∷ (102, 12) ∷ (110, 10) ∷ (114, 13) ∷ (116, 9) ∷ []

-- four hex digits, with that value
pub record IsUnit (digits : List ℕ) (unit : ℕ) : Type 0 where
  pub four : length digits ≡ 4
  pub hex : AllDigits 16 digits
  pub value : digits_value 16 digits ≡ unit

-- a character that is no control character, no quote and no backslash
pub record IsPlain (character : ℕ) : Type 0 where
  pub scalar : IsScalar character
  pub printed : 32 ≤ character
  pub no_quote : character ≢ 34
  pub no_backslash : character ≢ 92

-- a backslash, the letter u and four digits
abbrev pub unit_text : List ℕ → List ℕ
unit_text digits = 92 ∷ 117 ∷ digits

-- The text spells one character of these bytes: as it stands, by an escape of one letter, by its code, or by the two surrogates of its code.
pub data SpellsCharacter (text bytes : List ℕ) : Type 0 where
  plain : (c : ℕ) → IsPlain c → text ≡ encode_utf8 c → bytes ≡ encode_utf8 c → SpellsCharacter text bytes
  short : (letter c : ℕ) → Contains short_escapes (letter, c) → text ≡ 92 ∷ letter ∷ [] → bytes ≡ c ∷ [] → SpellsCharacter text bytes
  code : (digits : List ℕ) (c : ℕ) → IsUnit digits c → IsScalar c → text ≡ unit_text digits → bytes ≡ encode_utf8 c → SpellsCharacter text bytes
  pair : (before after : List ℕ) (high low : ℕ) → IsUnit before high → IsUnit after low → is_high_surrogate high ≡ true → is_low_surrogate low ≡ true →
      text ≡ unit_text before ++ unit_text after → bytes ≡ encode_utf8 (surrogate_pair_char high low) → SpellsCharacter text bytes

-- the text spells these bytes, character by character
pub record SpellsCharacters (bytes text : List ℕ) : Type 0 where
  pub characters : List (List ℕ × List ℕ)
  pub each : AllByRecursion (λ c. SpellsCharacter c.0 c.1) characters
  pub text_is : text ≡ flat_map (λ c. c.0) characters
  pub bytes_are : bytes ≡ flat_map (λ c. c.1) characters

-- a backslash before each quote and each backslash, and all other bytes as they are
abbrev pub escaped_byte : ℕ → List ℕ
escaped_byte byte = (if (byte == 34) || (byte == 92) then 92 ∷ byte ∷ [] else byte ∷ [])

abbrev pub escape : List ℕ → List ℕ
escape bytes = flat_map escaped_byte bytes
