-- The bytes of an escape of four hex digits, or of two times four, spell its character.
use Rattle.std.proofs.Common.{◌≡◌, ◌≤◌, ◌<◌, ℕ, ◌+◌, ◌-◌, ◌*◌, ◌==◌, ◌&&◌, ◌||◌, not, nat_lt, sym, ap, ◌∙◌, inl, inr, arith, true, List, [], ◌∷◌, ◌++◌}
use Rattle.std.specs.Char.{encode_utf8}
use Rattle.std.specs.Char.Utf16.{is_high_surrogate, is_low_surrogate, surrogate_pair_char}
use Rattle.std.proofs.lemmas.Bool.Decides.{Decides-eqb, nat_tests}
use Rattle.json_text.specs.CharacterSteps.{only, is_scalar, is_within, grow_low}
use Rattle.json_text.specs.Strings.{SpellsCharacter, code, pair, IsUnit, unit_text}
use Rattle.json_text.specs.declared.character.Part.{Part}
use Rattle.json_text.proofs.Completion.{Finishes, FinishesOn}
use Rattle.json_text.proofs.CodeSteps.{low_step}
use Rattle.json_text.proofs.HexDigits.{hex_small, unit_of}
use Rattle.json_text.proofs.FourDigits.{has_unit}
use Rattle.json_text.proofs.WholeCharacters.{on_if, CodeBack}
use Rattle.json_text.proofs.Scalars.{scalar_same}

-- The four hex digits of a low surrogate, and the character that it makes with the high one.
pub record HasLow (text : List ℕ) (high character : ℕ) : Type 0 where
  pub a : ℕ
  pub b : ℕ
  pub c : ℕ
  pub d : ℕ
  pub low : ℕ
  pub is_unit : IsUnit (a ∷ b ∷ c ∷ d ∷ []) low
  pub is_low : is_low_surrogate low ≡ true
  pub parts : text ≡ a ∷ b ∷ c ∷ d ∷ []
  pub character_is : surrogate_pair_char high low ≡ character

-- the first digit is 13
first_low : (high value : ℕ) (bytes : List ℕ) (character : ℕ) → FinishesOn bytes (grow_low high 0 value) character (λ more. Finishes bytes character more) →
    (value ≡ 13) × Finishes bytes character (Part.Low high 1 value)
first_low high value bytes character h =
    elim (on_if (((0 == 0) && not (value == 13)) || ((0 == 1) && nat_lt value 220)) _ _ bytes character (λ more. Finishes bytes character more) h) as (λ _. (value ≡ 13) × Finishes bytes character (Part.Low high 1 value)) [
      | inl t ↦ absurd t.1
      | inr t ↦ (let e = t.0 in grind (arith, nat_tests), t.1)
    ]

-- the first two are 220 or more
second_low : (high value : ℕ) (bytes : List ℕ) (character : ℕ) → FinishesOn bytes (grow_low high 1 value) character (λ more. Finishes bytes character more) →
    (220 ≤ value) × Finishes bytes character (Part.Low high 2 value)
second_low high value bytes character h =
    elim (on_if (((1 == 0) && not (value == 13)) || ((1 == 1) && nat_lt value 220)) _ _ bytes character (λ more. Finishes bytes character more) h) as (λ _. (220 ≤ value) × Finishes bytes character (Part.Low high 2 value)) [
      | inl t ↦ absurd t.1
      | inr t ↦ (let e = t.0 in grind (arith, nat_tests), t.1)
    ]

last_low : (high value : ℕ) (bytes : List ℕ) (character : ℕ) → FinishesOn bytes (grow_low high 3 value) character (λ more. Finishes bytes character more) →
    (surrogate_pair_char high value ≡ character) × (bytes ≡ [])
last_low high value bytes character h =
    elim (on_if (is_scalar (65536 + (high - 55296) * 1024 + (value - 56320))) _ _ bytes character (λ more. Finishes bytes character more) h) as (λ _. (surrogate_pair_char high value ≡ character) × (bytes ≡ [])) [
      | inl t ↦ t.1
      | inr t ↦ absurd t.1
    ]

low_range : (p q r s : ℕ) → 0 * 16 + p ≡ 13 → 220 ≤ (0 * 16 + p) * 16 + q → q < 16 → r < 16 → s < 16 → is_low_surrogate ((((0 * 16 + p) * 16 + q) * 16 + r) * 16 + s) ≡ true
low_range p q r s first second hq hr hs = grind (arith, nat_tests)

pub has_low : (text : List ℕ) (high character : ℕ) → Finishes text character (Part.Low high 0 0) → HasLow text high character
has_low [] high character h = absurd h
has_low (a ∷ []) high character h =
    let s = low_step high 0 0 a [] character h in
    absurd (first_low high (0 * 16 + s.0) [] character s.2).1
has_low (a ∷ b ∷ []) high character h =
    let s = low_step high 0 0 a (b ∷ []) character h in
    let t = low_step high 1 (0 * 16 + s.0) b [] character (first_low high (0 * 16 + s.0) (b ∷ []) character s.2).1 in
    absurd (second_low high ((0 * 16 + s.0) * 16 + t.0) [] character t.2).1
has_low (a ∷ b ∷ c ∷ []) high character h =
    let s = low_step high 0 0 a (b ∷ c ∷ []) character h in
    let t = low_step high 1 (0 * 16 + s.0) b (c ∷ []) character (first_low high (0 * 16 + s.0) (b ∷ c ∷ []) character s.2).1 in
    absurd (low_step high 2 ((0 * 16 + s.0) * 16 + t.0) c [] character (second_low high ((0 * 16 + s.0) * 16 + t.0) (c ∷ []) character t.2).1).2
has_low (a ∷ b ∷ c ∷ d ∷ rest) high character h =
    let s = low_step high 0 0 a (b ∷ c ∷ d ∷ rest) character h in
    let first = first_low high (0 * 16 + s.0) (b ∷ c ∷ d ∷ rest) character s.2 in
    let t = low_step high 1 (0 * 16 + s.0) b (c ∷ d ∷ rest) character first.1 in
    let second = second_low high ((0 * 16 + s.0) * 16 + t.0) (c ∷ d ∷ rest) character t.2 in
    let u = low_step high 2 ((0 * 16 + s.0) * 16 + t.0) c (d ∷ rest) character second.1 in
    let w = low_step high 3 (((0 * 16 + s.0) * 16 + t.0) * 16 + u.0) d rest character u.2 in
    let last = last_low high ((((0 * 16 + s.0) * 16 + t.0) * 16 + u.0) * 16 + w.0) rest character w.2 in
    record {
      a = a;
      b = b;
      c = c;
      d = d;
      low = (((0 * 16 + s.0) * 16 + t.0) * 16 + u.0) * 16 + w.0;
      is_unit = unit_of a b c d s.0 t.0 u.0 w.0 s.1 t.1 u.1 w.1;
      is_low = low_range s.0 t.0 u.0 w.0 first.0 second.0 (hex_small b t.0 t.1) (hex_small c u.0 u.1) (hex_small d w.0 w.1);
      parts = ap (λ (xs : List ℕ). a ∷ b ∷ c ∷ d ∷ xs) last.1;
      character_is = last.0;
    }

-- a byte that is the only one that may stand there, and then the rest
only_step : (b due : ℕ) (next : Part) (bytes : List ℕ) (character : ℕ) → FinishesOn bytes (only b due next) character (λ more. Finishes bytes character more) →
    (b ≡ due) × Finishes bytes character next
only_step b due next bytes character h =
    elim (on_if (b == due) _ _ bytes character (λ more. Finishes bytes character more) h) as (λ _. (b ≡ due) × Finishes bytes character next) [
      | inl t ↦ ((Decides-eqb b due).0 t.0, t.1)
      | inr t ↦ absurd t.1
    ]

-- A backslash, the letter u and the four digits of a low surrogate.
record HasEscapedLow (text : List ℕ) (high character : ℕ) : Type 0 where
  digits : List ℕ
  low : HasLow digits high character
  parts : text ≡ unit_text digits

has_escaped_low : (text : List ℕ) (high character : ℕ) → Finishes text character (Part.High high) → HasEscapedLow text high character
has_escaped_low [] high character h = absurd h
has_escaped_low (b ∷ []) high character h = absurd (only_step b 92 (Part.Slash high) [] character h).1
has_escaped_low (b ∷ d ∷ bytes) high character h =
    let s = only_step b 92 (Part.Slash high) (d ∷ bytes) character h in
    let t = only_step d 117 (Part.Low high 0 0) bytes character s.1 in
    record { digits = bytes; low = has_low bytes high character t.1; parts = ap (λ (x : ℕ). x ∷ d ∷ bytes) s.0 ∙ ap (λ (x : ℕ). 92 ∷ x ∷ bytes) t.0 }

high_range : (unit : ℕ) → is_within 55296 56319 unit ≡ true → is_high_surrogate unit ≡ true
high_range unit e = grind (arith, nat_tests)

pub code_back : CodeBack
code_back text character h =
    let u = has_unit text character h in
    let digits : List ℕ = u.a ∷ u.b ∷ u.c ∷ u.d ∷ [] in
    elim (on_if (is_within 55296 56319 u.unit) _ _ u.rest character (λ more. Finishes u.rest character more) u.next) as (λ _. SpellsCharacter (92 ∷ 117 ∷ text) (encode_utf8 character)) [
      | inl t ↦
          let e = has_escaped_low u.rest u.unit character t.1 in
          let low = e.low in
          pair digits (low.a ∷ low.b ∷ low.c ∷ low.d ∷ []) u.unit low.low u.is_unit low.is_unit (high_range u.unit t.0) low.is_low
          (ap (λ (xs : List ℕ). 92 ∷ 117 ∷ xs) u.parts ∙ ap (λ (xs : List ℕ). unit_text digits ++ xs) (e.parts ∙ ap unit_text low.parts))
          (ap encode_utf8 (sym low.character_is))
      | inr t ↦ elim (on_if (is_scalar u.unit) _ _ u.rest character (λ more. Finishes u.rest character more) t.1) as (λ _. SpellsCharacter (92 ∷ 117 ∷ text) (encode_utf8 character)) [
        | inl k ↦ code digits u.unit u.is_unit (sym (scalar_same u.unit) ∙ k.0) (ap (λ (xs : List ℕ). 92 ∷ 117 ∷ xs) u.parts ∙ ap (λ (xs : List ℕ). unit_text digits ++ xs) k.1.1) (ap encode_utf8 (sym k.1.0))
        | inr k ↦ absurd k.1
      ]
    ]
