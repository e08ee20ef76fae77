-- The parts of a character that a hex digit makes of a sound one are sound.
use Rattle.std.proofs.Common.{◌≡◌, ℕ, ◌+◌, ◌-◌, ◌*◌, ◌<◌, ◌≤◌, ◌==◌, ◌&&◌, ◌||◌, not, nat_lt, zero, suc, Bool, true, false, cond, refl, arith, Option, None, Some}
use Rattle.std.specs.Prelude.{IfSome}
use Rattle.std.proofs.lemmas.Bool.{and_parts}
use Rattle.std.proofs.lemmas.Bool.Decides.{nat_tests}
use Rattle.json_text.specs.declared.character.Part.TheVariants.{Code, High, Low}
use Rattle.json_text.specs.declared.character.Taken.{Taken}
use Rattle.json_text.specs.declared.character.Taken.TheVariants.{More, Whole}
use Rattle.json_text.specs.CharacterSteps.{is_sound, is_sound_taken, is_utf8_front, is_code_front, is_low_front, is_within, is_scalar, whole, grow_code, grow_low}

-- what came of a byte is sound, if anything came
abbrev pub Sound : Option Taken → Type 0
Sound o = IfSome o (λ taken. is_sound_taken taken ≡ true)

pub sound_by : (c : Bool) (x y : Option Taken) → (c ≡ true → Sound x) → (c ≡ false → Sound y) → Sound (cond c x y)
sound_by true x y h k = h refl
sound_by false x y h k = k refl

pub whole_sound : (character : ℕ) → Sound (whole character)
whole_sound character = sound_by (is_scalar character) (Some (Whole character)) None (λ e. e) (λ e. tt)

-- at most three hex digits or bytes are counted
pub utf8_few : (left front : ℕ) → is_utf8_front left front ≡ true → left ≤ 3
utf8_few left front sound = grind (arith, nat_tests)

pub code_few : (digits value : ℕ) → is_code_front digits value ≡ true → digits ≤ 3
code_few digits value sound = grind (arith, nat_tests)

pub low_few : (digits value : ℕ) → is_low_front digits value ≡ true → digits ≤ 3
low_few digits value sound = grind (arith, nat_tests)

code_1 : (value digit : ℕ) → is_code_front 0 value ≡ true → digit < 16 → is_code_front 1 (value * 16 + digit) ≡ true
code_1 value digit sound small = grind (arith, nat_tests)

code_2 : (value digit : ℕ) → is_code_front 1 value ≡ true → digit < 16 → is_within 220 223 (value * 16 + digit) ≡ false → is_code_front 2 (value * 16 + digit) ≡ true
code_2 value digit sound small e = grind (arith, nat_tests)

code_3 : (value digit : ℕ) → is_code_front 2 value ≡ true → digit < 16 → is_code_front 3 (value * 16 + digit) ≡ true
code_3 value digit sound small = grind (arith, nat_tests)

pub code_sound : (digits value digit : ℕ) → is_sound (Code digits value) ≡ true → digit < 16 → IfSome (grow_code digits (value * 16 + digit)) (λ taken. is_sound_taken taken ≡ true)
code_sound zero value digit sound small = code_1 value digit sound small
code_sound (suc zero) value digit sound small =
    sound_by (is_within 220 223 (value * 16 + digit)) None (Some (More (Code 2 (value * 16 + digit)))) (λ e. tt) (λ e. code_2 value digit sound small e)
code_sound (suc (suc zero)) value digit sound small = code_3 value digit sound small
code_sound (suc (suc (suc zero))) value digit sound small =
    sound_by (is_within 55296 56319 (value * 16 + digit)) (Some (More (High (value * 16 + digit)))) (whole (value * 16 + digit)) (λ e. e) (λ e. whole_sound (value * 16 + digit))
code_sound (suc (suc (suc (suc k)))) value digit sound small = absurd (let few = code_few (suc (suc (suc (suc k)))) value sound in omega arith)

low_1 : (value : ℕ) → (not (value == 13) || false) ≡ false → is_low_front 1 value ≡ true
low_1 value e = grind (arith, nat_tests)

low_2 : (value digit : ℕ) → is_low_front 1 value ≡ true → digit < 16 → nat_lt (value * 16 + digit) 220 ≡ false → is_low_front 2 (value * 16 + digit) ≡ true
low_2 value digit sound small e = grind (arith, nat_tests)

low_3 : (value digit : ℕ) → is_low_front 2 value ≡ true → digit < 16 → is_low_front 3 (value * 16 + digit) ≡ true
low_3 value digit sound small = grind (arith, nat_tests)

and_true : (a b : Bool) → a ≡ true → b ≡ true → (a && b) ≡ true
and_true true b e f = f
and_true false b e f = e

pub low_sound : (high digits value digit : ℕ) → is_sound (Low high digits value) ≡ true → digit < 16 → IfSome (grow_low high digits (value * 16 + digit)) (λ taken. is_sound_taken taken ≡ true)
low_sound high zero value digit sound small =
    let parts = and_parts (is_within 55296 56319 high) (is_low_front 0 value) sound in
    sound_by (not (value * 16 + digit == 13) || false) None (Some (More (Low high 1 (value * 16 + digit)))) (λ e. tt)
    (λ e. and_true (is_within 55296 56319 high) (is_low_front 1 (value * 16 + digit)) parts.0 (low_1 (value * 16 + digit) e))
low_sound high (suc zero) value digit sound small =
    let parts = and_parts (is_within 55296 56319 high) (is_low_front 1 value) sound in
    sound_by (nat_lt (value * 16 + digit) 220) None (Some (More (Low high 2 (value * 16 + digit)))) (λ e. tt)
    (λ e. and_true (is_within 55296 56319 high) (is_low_front 2 (value * 16 + digit)) parts.0 (low_2 value digit parts.1 small e))
low_sound high (suc (suc zero)) value digit sound small =
    let parts = and_parts (is_within 55296 56319 high) (is_low_front 2 value) sound in
    and_true (is_within 55296 56319 high) (is_low_front 3 (value * 16 + digit)) parts.0 (low_3 value digit parts.1 small)
low_sound high (suc (suc (suc zero))) value digit sound small = whole_sound (65536 + (high - 55296) * 1024 + (value * 16 + digit - 56320))
low_sound high (suc (suc (suc (suc k)))) value digit sound small =
    absurd (let few = low_few (suc (suc (suc (suc k)))) value (and_parts (is_within 55296 56319 high) (is_low_front (suc (suc (suc (suc k)))) value) sound).1 in omega arith)
