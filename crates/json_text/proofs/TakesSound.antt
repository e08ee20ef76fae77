-- What a byte makes of a sound part of a character is sound.
use Rattle.std.proofs.Common.{◌≡◌, ◌<◌, ℕ, zero, suc, ◌+◌, ◌-◌, ◌*◌, ◌==◌, ◌||◌, refl, subst, arith, true, Option, None, Some}
use Rattle.std.proofs.lemmas.Bool.Decides.{nat_tests}
use Rattle.json_text.specs.declared.character.Part.{Part}
use Rattle.json_text.specs.declared.character.Taken.{Taken}
use Rattle.json_text.specs.CharacterSteps.{take_byte, first_byte, next_byte, grow, whole, escaped_letter, next_of_code, next_of_low, hex_digit, is_sound, is_utf8_front, is_front, is_scalar, is_within}
use Rattle.json_text.proofs.Cases.{false_true}
use Rattle.json_text.proofs.HexDigits.{hex_small}
use Rattle.json_text.proofs.CharacterLemmas.{Sound, sound_by, whole_sound, utf8_few, code_sound, low_sound}

-- ---- bytes of UTF-8

low_scalar : (low high byte : ℕ) → high < 55296 → is_within low high byte ≡ true → is_scalar byte ≡ true
low_scalar low high byte small e = grind (arith, nat_tests)

first_1 : (byte : ℕ) → is_within 194 223 byte ≡ true → is_utf8_front 1 (byte - 192) ≡ true
first_1 byte e = grind (arith, nat_tests)

first_2 : (byte : ℕ) → is_within 224 239 byte ≡ true → is_utf8_front 2 (byte - 224) ≡ true
first_2 byte e = grind (arith, nat_tests)

first_3 : (byte : ℕ) → is_within 240 244 byte ≡ true → is_utf8_front 3 (byte - 240) ≡ true
first_3 byte e = grind (arith, nat_tests)

first_sound : (byte : ℕ) → Sound (first_byte byte)
first_sound byte =
    sound_by (byte == 34) (Some Taken.Quote) _ (λ e. refl)
    (λ e. sound_by (byte == 92) (Some (Taken.More Part.Escape)) _ (λ e. refl)
    (λ e. sound_by (is_within 32 127 byte) (Some (Taken.Whole byte)) _ (λ e. low_scalar 32 127 byte (omega arith) e)
    (λ e. sound_by (is_within 194 223 byte) (Some (Taken.More (Part.Utf8 1 (byte - 192)))) _ (first_1 byte)
    (λ e. sound_by (is_within 224 239 byte) (Some (Taken.More (Part.Utf8 2 (byte - 224)))) _ (first_2 byte)
    (λ e. sound_by (is_within 240 244 byte) (Some (Taken.More (Part.Utf8 3 (byte - 240)))) None (first_3 byte) (λ e. tt))))))

front_1 : (front byte : ℕ) → is_utf8_front 2 front ≡ true → is_within 128 191 byte ≡ true → is_front 1 (front * 64 + (byte - 128)) ≡ true → is_utf8_front 1 (front * 64 + (byte - 128)) ≡ true
front_1 front byte sound e f = grind (arith, nat_tests)

front_2 : (front : ℕ) → is_front 2 front ≡ true → is_utf8_front 2 front ≡ true
front_2 front f = grind (arith, nat_tests)

next_sound : (left front byte : ℕ) → is_utf8_front left front ≡ true → Sound (next_byte left front byte)
next_sound zero front byte sound = false_true sound
next_sound (suc zero) front byte sound = sound_by (is_within 128 191 byte) (whole (front * 64 + (byte - 128))) None (λ e. whole_sound (front * 64 + (byte - 128))) (λ e. tt)
next_sound (suc (suc zero)) front byte sound =
    let more = front * 64 + (byte - 128) in
    sound_by (is_within 128 191 byte) (grow 1 more) None (λ e. sound_by (is_front 1 more) (Some (Taken.More (Part.Utf8 1 more))) None (front_1 front byte sound e) (λ f. tt)) (λ e. tt)
next_sound (suc (suc (suc zero))) front byte sound =
    let more = front * 64 + (byte - 128) in
    sound_by (is_within 128 191 byte) (grow 2 more) None (λ e. sound_by (is_front 2 more) (Some (Taken.More (Part.Utf8 2 more))) None (front_2 more) (λ f. tt)) (λ e. tt)
next_sound (suc (suc (suc (suc k)))) front byte sound = absurd (let few = utf8_few (suc (suc (suc (suc k)))) front sound in omega arith)

-- ---- escapes

letter_scalar : (byte : ℕ) → ((byte == 34) || (byte == 92) || (byte == 47)) ≡ true → is_scalar byte ≡ true
letter_scalar byte e = grind (arith, nat_tests)

letter_sound : (byte : ℕ) → Sound (escaped_letter byte)
letter_sound byte =
    sound_by ((byte == 34) || (byte == 92) || (byte == 47)) (Some (Taken.Whole byte)) _ (letter_scalar byte)
    (λ e. sound_by (byte == 98) (Some (Taken.Whole 8)) _ (λ e. refl)
    (λ e. sound_by (byte == 102) (Some (Taken.Whole 12)) _ (λ e. refl)
    (λ e. sound_by (byte == 110) (Some (Taken.Whole 10)) _ (λ e. refl)
    (λ e. sound_by (byte == 114) (Some (Taken.Whole 13)) _ (λ e. refl)
    (λ e. sound_by (byte == 116) (Some (Taken.Whole 9)) _ (λ e. refl)
    (λ e. sound_by (byte == 117) (Some (Taken.More (Part.Code 0 0))) None (λ e. refl) (λ e. tt)))))))

code_next : (digits value byte : ℕ) → is_sound (Part.Code digits value) ≡ true → (o : Option ℕ) → hex_digit byte ≡ o → Sound (next_of_code digits value o)
code_next digits value byte sound None e = tt
code_next digits value byte sound (Some digit) e = code_sound digits value digit sound (hex_small byte digit e)

low_next : (high digits value byte : ℕ) → is_sound (Part.Low high digits value) ≡ true → (o : Option ℕ) → hex_digit byte ≡ o → Sound (next_of_low high digits value o)
low_next high digits value byte sound None e = tt
low_next high digits value byte sound (Some digit) e = low_sound high digits value digit sound (hex_small byte digit e)

-- ---- all parts

pub take_sound : (part : Part) (byte : ℕ) → is_sound part ≡ true → Sound (take_byte part byte)
take_sound Part.Due byte sound = first_sound byte
take_sound (Part.Utf8 left front) byte sound = next_sound left front byte sound
take_sound Part.Escape byte sound = letter_sound byte
take_sound (Part.Code digits value) byte sound = code_next digits value byte sound (hex_digit byte) refl
take_sound (Part.High high) byte sound = sound_by (byte == 92) (Some (Taken.More (Part.Slash high))) None (λ e. sound) (λ e. tt)
take_sound (Part.Slash high) byte sound = sound_by (byte == 117) (Some (Taken.More (Part.Low high 0 0))) None (λ e. rw sound refl) (λ e. tt)
take_sound (Part.Low high digits value) byte sound = low_next high digits value byte sound (hex_digit byte) refl

-- a part that a byte makes of a sound one
pub more_sound : (part next : Part) (byte : ℕ) → is_sound part ≡ true → take_byte part byte ≡ Some (Taken.More next) → is_sound next ≡ true
more_sound part next byte sound e = subst Sound e (take_sound part byte sound)
