-- Each sound part of a character can be completed.
use Rattle.std.proofs.Common.{◌≡◌, ◌≢◌, ◌≤◌, ◌<◌, ℕ, zero, suc, ◌+◌, ◌-◌, ◌*◌, ◌==◌, nat_lt, refl, inl, inr, arith, true, false, List, [], ◌∷◌, Some}
use Rattle.std.proofs.lemmas.Bool.{and_parts, cases_eq}
use Rattle.std.proofs.lemmas.Bool.Decides.{nat_tests}
use Rattle.json_text.specs.CharacterSteps.{take_byte, is_front, is_scalar, is_within, is_sound, is_utf8_front, is_code_front, is_low_front, grow_low}
use Rattle.json_text.specs.declared.character.Part.{Part}
use Rattle.json_text.specs.declared.character.Taken.{Taken}
use Rattle.json_text.proofs.Cases.{by_cases_of, false_true}
use Rattle.json_text.proofs.CharacterLemmas.{utf8_few, code_few, low_few, code_sound, low_sound}
use Rattle.json_text.proofs.Completion.{Finishes}
use Rattle.json_text.proofs.CharacterBytes.{finish_more, finish_last, last_byte, second_last, third_last}

-- some bytes take the part to the end of some character
abbrev pub Completed : Part → Type 0
Completed part = (character : ℕ) × (text : List ℕ) × Finishes text character part

-- a byte, and what completes the part that it makes
behind : (part next : Part) (b : ℕ) → take_byte part b ≡ Some (Taken.More next) → Completed next → Completed part
behind part next b e h = (h.0, b ∷ h.1, finish_more part next b h.1 h.0 e h.2)

last : (part : Part) (b character : ℕ) → take_byte part b ≡ Some (Taken.Whole character) → Completed part
last part b character e = (character, b ∷ [], finish_last part b character e)

-- ---- bytes of UTF-8

utf8_1 : (front : ℕ) → is_utf8_front 1 front ≡ true → Completed (Part.Utf8 1 front)
utf8_1 front sound =
    let scalar : is_scalar (front * 64 + 0) ≡ true = grind (arith, nat_tests) in
    (front * 64 + 0, (128 + 0) ∷ [], last_byte front 0 (front * 64 + 0) (omega arith) refl scalar)

utf8_2_by : (front r : ℕ) → r < 64 → is_front 1 (front * 64 + r) ≡ true → front ≤ 271 → Completed (Part.Utf8 2 front)
utf8_2_by front r small e most =
    let h = utf8_1 (front * 64 + r) (grind (arith, nat_tests)) in
    (h.0, (128 + r) ∷ h.1, second_last front r h.0 h.1 small e h.2)

utf8_most : (front : ℕ) → is_utf8_front 2 front ≡ true → front ≤ 271
utf8_most front sound = grind (arith, nat_tests)

utf8_2 : (front : ℕ) → is_utf8_front 2 front ≡ true → Completed (Part.Utf8 2 front)
utf8_2 front sound =
    let most = utf8_most front sound in
    elim (cases_eq front 0) [
      | inl none ↦ utf8_2_by front 32 (omega arith) (first_front front none) most
      | inr some ↦ utf8_2_by front 0 (omega arith) (other_front front some) most
    ]
  where
    first_front : (front : ℕ) → front ≡ 0 → is_front 1 (front * 64 + 32) ≡ true
    first_front front none = grind (arith, nat_tests)

    other_front : (front : ℕ) → front ≢ 0 → is_front 1 (front * 64 + 0) ≡ true
    other_front front some = let more : 1 ≤ front = omega arith in grind (arith, nat_tests)

utf8_3_by : (front r : ℕ) → r < 64 → is_front 2 (front * 64 + r) ≡ true → Completed (Part.Utf8 3 front)
utf8_3_by front r small e =
    let h = utf8_2 (front * 64 + r) (grind (arith, nat_tests)) in
    (h.0, (128 + r) ∷ h.1, third_last front r h.0 h.1 small e h.2)

utf8_3 : (front : ℕ) → is_utf8_front 3 front ≡ true → Completed (Part.Utf8 3 front)
utf8_3 front sound = elim (cases_eq front 0) [
  | inl none ↦ utf8_3_by front 16 (omega arith) (first_front front none)
  | inr some ↦ utf8_3_by front 0 (omega arith) (other_front front some sound)
]
  where
    first_front : (front : ℕ) → front ≡ 0 → is_front 2 (front * 64 + 16) ≡ true
    first_front front none = grind (arith, nat_tests)

    other_front : (front : ℕ) → front ≢ 0 → is_utf8_front 3 front ≡ true → is_front 2 (front * 64 + 0) ≡ true
    other_front front some sound = let more : 1 ≤ front = omega arith in grind (arith, nat_tests)

utf8_some : (front : ℕ) → is_utf8_front 0 front ≡ true → Completed (Part.Utf8 0 front)
utf8_some front sound = false_true sound

utf8_completed : (left front : ℕ) → is_utf8_front left front ≡ true → Completed (Part.Utf8 left front)
utf8_completed zero front sound = utf8_some front sound
utf8_completed (suc zero) front sound = utf8_1 front sound
utf8_completed (suc (suc zero)) front sound = utf8_2 front sound
utf8_completed (suc (suc (suc zero))) front sound = utf8_3 front sound
utf8_completed (suc (suc (suc (suc k)))) front sound = absurd (let few = utf8_few (suc (suc (suc (suc k)))) front sound in omega arith)

-- ---- the low surrogate

low_3 : (high value : ℕ) → is_sound (Part.Low high 3 value) ≡ true → Completed (Part.Low high 3 value)
low_3 high value sound =
    let character = 65536 + (high - 55296) * 1024 + (value * 16 + 0 - 56320) in
    let scalar : is_scalar character ≡ true = grind (arith, nat_tests) in
    last (Part.Low high 3 value) 48 character (rw scalar refl)

low_2 : (high value : ℕ) → is_sound (Part.Low high 2 value) ≡ true → Completed (Part.Low high 2 value)
low_2 high value sound = behind (Part.Low high 2 value) (Part.Low high 3 (value * 16 + 0)) 48 refl (low_3 high (value * 16 + 0) (low_sound high 2 value 0 sound (omega arith)))

low_1 : (high value : ℕ) → is_sound (Part.Low high 1 value) ≡ true → Completed (Part.Low high 1 value)
low_1 high value sound =
    let more : nat_lt (value * 16 + 12) 220 ≡ false = grind (arith, nat_tests) in
    let next : grow_low high 1 (value * 16 + 12) ≡ Some (Taken.More (Part.Low high 2 (value * 16 + 12))) = rw more refl in
    let next_sound : is_sound (Part.Low high 2 (value * 16 + 12)) ≡ true = grind (arith, nat_tests) in
    behind (Part.Low high 1 value) (Part.Low high 2 (value * 16 + 12)) 67 next (low_2 high (value * 16 + 12) next_sound)

low_0 : (high value : ℕ) → is_sound (Part.Low high 0 value) ≡ true → Completed (Part.Low high 0 value)
low_0 high value sound =
    let same : (value * 16 + 13 == 13) ≡ true = grind (arith, nat_tests) in
    let next : grow_low high 0 (value * 16 + 13) ≡ Some (Taken.More (Part.Low high 1 (value * 16 + 13))) = rw same refl in
    let next_sound : is_sound (Part.Low high 1 (value * 16 + 13)) ≡ true = grind (arith, nat_tests) in
    behind (Part.Low high 0 value) (Part.Low high 1 (value * 16 + 13)) 68 next (low_1 high (value * 16 + 13) next_sound)

low_completed : (high digits value : ℕ) → is_sound (Part.Low high digits value) ≡ true → Completed (Part.Low high digits value)
low_completed high zero value sound = low_0 high value sound
low_completed high (suc zero) value sound = low_1 high value sound
low_completed high (suc (suc zero)) value sound = low_2 high value sound
low_completed high (suc (suc (suc zero))) value sound = low_3 high value sound
low_completed high (suc (suc (suc (suc k)))) value sound = absurd (let few = low_few (suc (suc (suc (suc k)))) value (and_parts (is_within 55296 56319 high) (is_low_front (suc (suc (suc (suc k)))) value) sound).1 in omega arith)

slash_completed : (high : ℕ) → is_within 55296 56319 high ≡ true → Completed (Part.Slash high)
slash_completed high sound =
    let next : is_sound (Part.Low high 0 0) ≡ true = rw sound refl in
    behind (Part.Slash high) (Part.Low high 0 0) 117 refl (low_0 high 0 next)

high_completed : (high : ℕ) → is_within 55296 56319 high ≡ true → Completed (Part.High high)
high_completed high sound = behind (Part.High high) (Part.Slash high) 92 refl (slash_completed high sound)

-- ---- a code

code_3 : (value : ℕ) → is_code_front 3 value ≡ true → Completed (Part.Code 3 value)
code_3 value sound =
    by_cases_of (is_within 55296 56319 (value * 16 + 0)) (Completed (Part.Code 3 value))
    (λ e. behind (Part.Code 3 value) (Part.High (value * 16 + 0)) 48 (rw e refl) (high_completed (value * 16 + 0) e))
    (λ e. let scalar : is_scalar (value * 16 + 0) ≡ true = grind (arith, nat_tests) in last (Part.Code 3 value) 48 (value * 16 + 0) (rw (e, scalar) refl))

code_2 : (value : ℕ) → is_code_front 2 value ≡ true → Completed (Part.Code 2 value)
code_2 value sound = behind (Part.Code 2 value) (Part.Code 3 (value * 16 + 0)) 48 refl (code_3 (value * 16 + 0) (code_sound 2 value 0 sound (omega arith)))

code_1 : (value : ℕ) → is_code_front 1 value ≡ true → Completed (Part.Code 1 value)
code_1 value sound =
    let no_low : is_within 220 223 (value * 16 + 0) ≡ false = grind (arith, nat_tests) in
    let next_sound : is_code_front 2 (value * 16 + 0) ≡ true = grind (arith, nat_tests) in
    behind (Part.Code 1 value) (Part.Code 2 (value * 16 + 0)) 48 (rw no_low refl) (code_2 (value * 16 + 0) next_sound)

code_0 : (value : ℕ) → is_code_front 0 value ≡ true → Completed (Part.Code 0 value)
code_0 value sound = behind (Part.Code 0 value) (Part.Code 1 (value * 16 + 0)) 48 refl (code_1 (value * 16 + 0) (code_sound 0 value 0 sound (omega arith)))

code_completed : (digits value : ℕ) → is_code_front digits value ≡ true → Completed (Part.Code digits value)
code_completed zero value sound = code_0 value sound
code_completed (suc zero) value sound = code_1 value sound
code_completed (suc (suc zero)) value sound = code_2 value sound
code_completed (suc (suc (suc zero))) value sound = code_3 value sound
code_completed (suc (suc (suc (suc k)))) value sound = absurd (let few = code_few (suc (suc (suc (suc k)))) value sound in omega arith)

-- ---- all parts

pub part_completes : (part : Part) → is_sound part ≡ true → Completed part
part_completes Part.Due sound = last Part.Due 32 32 refl
part_completes (Part.Utf8 left front) sound = utf8_completed left front sound
part_completes Part.Escape sound = last Part.Escape 34 34 refl
part_completes (Part.Code digits value) sound = code_completed digits value sound
part_completes (Part.High high) sound = high_completed high sound
part_completes (Part.Slash high) sound = slash_completed high sound
part_completes (Part.Low high digits value) sound = low_completed high digits value sound
