-- A further hex digit of a character's code.
use Rattle.std.proofs.Common.{◌≡◌, ℕ, ◌+◌, ◌*◌, refl, List, ◌∷◌, Option, None, Some}
use Rattle.json_text.specs.CharacterSteps.{hex_digit, grow_code, grow_low, next_of_code, next_of_low}
use Rattle.json_text.specs.declared.character.Part.{Part}
use Rattle.json_text.proofs.Completion.{Finishes, FinishesOn}

-- a digit, and what it makes of the code
pub code_step : (digits value b : ℕ) (bytes : List ℕ) (character : ℕ) → Finishes (b ∷ bytes) character (Part.Code digits value) →
    (v : ℕ) × (hex_digit b ≡ Some v) × FinishesOn bytes (grow_code digits (value * 16 + v)) character (λ more. Finishes bytes character more)
code_step digits value b bytes character h = cases (hex_digit b) refl h
  where
    cases : (o : Option ℕ) → hex_digit b ≡ o → FinishesOn bytes (next_of_code digits value o) character (λ more. Finishes bytes character more) →
        (v : ℕ) × (hex_digit b ≡ Some v) × FinishesOn bytes (grow_code digits (value * 16 + v)) character (λ more. Finishes bytes character more)
    cases None e k = absurd k
    cases (Some v) e k = (v, e, k)

-- the same of a low surrogate
pub low_step : (high digits value b : ℕ) (bytes : List ℕ) (character : ℕ) → Finishes (b ∷ bytes) character (Part.Low high digits value) →
    (v : ℕ) × (hex_digit b ≡ Some v) × FinishesOn bytes (grow_low high digits (value * 16 + v)) character (λ more. Finishes bytes character more)
low_step high digits value b bytes character h = cases (hex_digit b) refl h
  where
    cases : (o : Option ℕ) → hex_digit b ≡ o → FinishesOn bytes (next_of_low high digits value o) character (λ more. Finishes bytes character more) →
        (v : ℕ) × (hex_digit b ≡ Some v) × FinishesOn bytes (grow_low high digits (value * 16 + v)) character (λ more. Finishes bytes character more)
    cases None e k = absurd k
    cases (Some v) e k = (v, e, k)
