-- The four hex digits of a code.
use Rattle.std.proofs.Common.{◌≡◌, ℕ, ◌+◌, ◌*◌, ◌&&◌, ◌==◌, refl, inl, inr, List, [], ◌∷◌, Some}
use Rattle.json_text.specs.CharacterSteps.{hex_digit, is_within, grow_code}
use Rattle.json_text.specs.Strings.{IsUnit}
use Rattle.json_text.specs.declared.character.Part.{Part}
use Rattle.json_text.proofs.Completion.{Finishes, FinishesOn}
use Rattle.json_text.proofs.CodeSteps.{code_step}
use Rattle.json_text.proofs.HexDigits.{unit_of}
use Rattle.json_text.proofs.WholeCharacters.{on_if}

-- Four hex digits with their value, and what that makes of the character.
pub record HasUnit (text : List ℕ) (character : ℕ) : Type 0 where
  pub a : ℕ
  pub b : ℕ
  pub c : ℕ
  pub d : ℕ
  pub rest : List ℕ
  pub unit : ℕ
  pub is_unit : IsUnit (a ∷ b ∷ c ∷ d ∷ []) unit
  pub parts : text ≡ a ∷ b ∷ c ∷ d ∷ rest
  pub next : FinishesOn rest (grow_code 3 unit) character (λ more. Finishes rest character more)

second : (value b : ℕ) (bytes : List ℕ) (character : ℕ) → Finishes (b ∷ bytes) character (Part.Code 1 value) →
    (v : ℕ) × (hex_digit b ≡ Some v) × Finishes bytes character (Part.Code 2 (value * 16 + v))
second value b bytes character h =
    let s = code_step 1 value b bytes character h in
    elim (on_if ((1 == 1) && is_within 220 223 (value * 16 + s.0)) _ _ bytes character (λ more. Finishes bytes character more) s.2) as (λ _. (v : ℕ) × (hex_digit b ≡ Some v) × Finishes bytes character (Part.Code 2 (value * 16 + v))) [
      | inl t ↦ absurd t.1
      | inr t ↦ (s.0, s.1, t.1)
    ]

pub has_unit : (text : List ℕ) (character : ℕ) → Finishes text character (Part.Code 0 0) → HasUnit text character
has_unit [] character h = absurd h
has_unit (a ∷ []) character h = absurd (code_step 0 0 a [] character h).2
has_unit (a ∷ b ∷ []) character h =
    let s = code_step 0 0 a (b ∷ []) character h in
    absurd (second (0 * 16 + s.0) b [] character s.2).2
has_unit (a ∷ b ∷ c ∷ []) character h =
    let s = code_step 0 0 a (b ∷ c ∷ []) character h in
    let t = second (0 * 16 + s.0) b (c ∷ []) character s.2 in
    absurd (code_step 2 ((0 * 16 + s.0) * 16 + t.0) c [] character t.2).2
has_unit (a ∷ b ∷ c ∷ d ∷ rest) character h =
    let s = code_step 0 0 a (b ∷ c ∷ d ∷ rest) character h in
    let t = second (0 * 16 + s.0) b (c ∷ d ∷ rest) character s.2 in
    let u = code_step 2 ((0 * 16 + s.0) * 16 + t.0) c (d ∷ rest) character t.2 in
    let w = code_step 3 (((0 * 16 + s.0) * 16 + t.0) * 16 + u.0) d rest character u.2 in
    record {
      a = a;
      b = b;
      c = c;
      d = d;
      rest = rest;
      unit = (((0 * 16 + s.0) * 16 + t.0) * 16 + u.0) * 16 + w.0;
      is_unit = unit_of a b c d s.0 t.0 u.0 w.0 s.1 t.1 u.1 w.1;
      parts = refl;
      next = w.2;
    }
