-- An escape of four hex digits, or of two times four, is taken byte by byte.
use Rattle.std.proofs.Common.{◌≡◌, ◌<◌, ℕ, ◌+◌, ◌*◌, ◌==◌, nat_lt, refl, sym, ap, ◌∙◌, subst, arith, true, false, List, [], ◌∷◌, ◌++◌, length, append-nil, Option, Some}
use Rattle.std.specs.Char.{digit_value}
use Rattle.std.specs.Char.Utf16.{is_high_surrogate, is_low_surrogate, surrogate_pair_char}
use Rattle.std.specs.Str.Parse.{AllDigits, digits_value}
use Rattle.std.proofs.lemmas.Bool.Decides.{nat_tests}
use Rattle.json_text.specs.CharacterSteps.{take_byte, hex_digit, is_scalar, is_within, grow_code, grow_low, next_of_code, next_of_low}
use Rattle.json_text.specs.Strings.{IsUnit, unit_text}
use Rattle.json_text.specs.declared.character.Part.{Part}
use Rattle.json_text.specs.declared.character.Taken.{Taken}
use Rattle.json_text.proofs.Completion.{Finishes, FinishesOn}
use Rattle.json_text.proofs.CharacterBytes.{finish_more, finish_last}

pub hex_of : (b : ℕ) → digit_value b < 16 → hex_digit b ≡ Some (digit_value b)
hex_of b small = grind (arith, nat_tests)

-- Four hex digits, the value of each, and that of all.
pub record HasDigits (digits : List ℕ) (unit : ℕ) : Type 0 where
  pub a : ℕ
  pub b : ℕ
  pub c : ℕ
  pub d : ℕ
  pub p : ℕ
  pub q : ℕ
  pub r : ℕ
  pub s : ℕ
  pub hex_a : hex_digit a ≡ Some p
  pub hex_b : hex_digit b ≡ Some q
  pub hex_c : hex_digit c ≡ Some r
  pub hex_d : hex_digit d ≡ Some s
  pub small_p : p < 16
  pub small_q : q < 16
  pub small_r : r < 16
  pub small_s : s < 16
  pub parts : digits ≡ a ∷ b ∷ c ∷ d ∷ []
  pub value : (((0 * 16 + p) * 16 + q) * 16 + r) * 16 + s ≡ unit

four_digits : (digits : List ℕ) (unit : ℕ) → length digits ≡ 4 → AllDigits 16 digits → digits_value 16 digits ≡ unit → HasDigits digits unit
four_digits [] unit four hex value = absurd (omega arith)
four_digits (a ∷ []) unit four hex value = absurd (omega arith)
four_digits (a ∷ b ∷ []) unit four hex value = absurd (omega arith)
four_digits (a ∷ b ∷ c ∷ []) unit four hex value = absurd (omega arith)
four_digits (a ∷ b ∷ c ∷ d ∷ []) unit four hex value = record {
  a = a;
  b = b;
  c = c;
  d = d;
  p = digit_value a;
  q = digit_value b;
  r = digit_value c;
  s = digit_value d;
  hex_a = hex_of a hex.0;
  hex_b = hex_of b hex.1.0;
  hex_c = hex_of c hex.1.1.0;
  hex_d = hex_of d hex.1.1.1.0;
  small_p = hex.0;
  small_q = hex.1.0;
  small_r = hex.1.1.0;
  small_s = hex.1.1.1.0;
  parts = refl;
  value = value;
}
four_digits (a ∷ b ∷ c ∷ d ∷ e ∷ rest) unit four hex value = absurd (omega arith)

pub digits_of : (digits : List ℕ) (unit : ℕ) → IsUnit digits unit → HasDigits digits unit
digits_of digits unit h = four_digits digits unit h.four h.hex h.value

-- ---- digits of a code

code_is : (digits value b digit : ℕ) → hex_digit b ≡ Some digit → take_byte (Part.Code digits value) b ≡ grow_code digits (value * 16 + digit)
code_is digits value b digit e = ap (λ (o : Option ℕ). next_of_code digits value o) e

-- the four digits of a code that is not a low surrogate's, and what the last one makes
pub code_digits : (digits rest : List ℕ) (unit character : ℕ) → IsUnit digits unit → is_low_surrogate unit ≡ false →
    FinishesOn rest (grow_code 3 unit) character (λ more. Finishes rest character more) → Finishes (digits ++ rest) character (Part.Code 0 0)
code_digits digits rest unit character h high last =
    let u = digits_of digits unit h in
    let v = (0 * 16 + u.p) * 16 + u.q in
    let first : take_byte (Part.Code 0 0) u.a ≡ Some (Taken.More (Part.Code 1 (0 * 16 + u.p))) = code_is 0 0 u.a u.p u.hex_a in
    let no_low : is_within 220 223 v ≡ false = no_front v u.r u.s u.small_r u.small_s (subst (λ (n : ℕ). is_low_surrogate n ≡ false) (sym u.value) high) in
    let second : take_byte (Part.Code 1 (0 * 16 + u.p)) u.b ≡ Some (Taken.More (Part.Code 2 v)) = code_is 1 (0 * 16 + u.p) u.b u.q u.hex_b ∙ (rw no_low refl) in
    let third : take_byte (Part.Code 2 v) u.c ≡ Some (Taken.More (Part.Code 3 (v * 16 + u.r))) = code_is 2 v u.c u.r u.hex_c in
    let fourth : take_byte (Part.Code 3 (v * 16 + u.r)) u.d ≡ grow_code 3 unit = code_is 3 (v * 16 + u.r) u.d u.s u.hex_d ∙ ap (λ (n : ℕ). grow_code 3 n) u.value in
    subst (λ (bytes : List ℕ). Finishes (bytes ++ rest) character (Part.Code 0 0)) (sym u.parts)
    (finish_more (Part.Code 0 0) (Part.Code 1 (0 * 16 + u.p)) u.a (u.b ∷ u.c ∷ u.d ∷ rest) character first
    (finish_more (Part.Code 1 (0 * 16 + u.p)) (Part.Code 2 v) u.b (u.c ∷ u.d ∷ rest) character second
    (finish_more (Part.Code 2 v) (Part.Code 3 (v * 16 + u.r)) u.c (u.d ∷ rest) character third
    (subst (λ (o : Option Taken). FinishesOn rest o character (λ more. Finishes rest character more)) (sym fourth) last))))
  where
    no_front : (v r s : ℕ) → r < 16 → s < 16 → is_low_surrogate ((v * 16 + r) * 16 + s) ≡ false → is_within 220 223 v ≡ false
    no_front v r s small_r small_s e = grind (arith, nat_tests)

scalar_no_low : (unit : ℕ) → is_scalar unit ≡ true → is_low_surrogate unit ≡ false
scalar_no_low unit scalar = grind (arith, nat_tests)

scalar_no_high : (unit : ℕ) → is_scalar unit ≡ true → is_within 55296 56319 unit ≡ false
scalar_no_high unit scalar = grind (arith, nat_tests)

-- the four digits of a character's code
pub code_finishes : (digits : List ℕ) (c : ℕ) → IsUnit digits c → is_scalar c ≡ true → Finishes digits c (Part.Code 0 0)
code_finishes digits c h scalar =
    let last : grow_code 3 c ≡ Some (Taken.Whole c) = rw (scalar_no_high c scalar, scalar) refl in
    subst (λ (bytes : List ℕ). Finishes bytes c (Part.Code 0 0)) (append-nil digits)
    (code_digits digits [] c c h (scalar_no_low c scalar) (subst (λ (o : Option Taken). FinishesOn [] o c (λ more. Finishes [] c more)) (sym last) (refl, refl)))

-- ---- digits of a low surrogate

low_is : (high digits value b digit : ℕ) → hex_digit b ≡ Some digit → take_byte (Part.Low high digits value) b ≡ grow_low high digits (value * 16 + digit)
low_is high digits value b digit e = ap (λ (o : Option ℕ). next_of_low high digits value o) e

pair_scalar : (high low : ℕ) → is_high_surrogate high ≡ true → is_low_surrogate low ≡ true → is_scalar (surrogate_pair_char high low) ≡ true
pair_scalar high low e f = grind (arith, nat_tests)

pub low_finishes : (digits : List ℕ) (high low : ℕ) → IsUnit digits low → is_high_surrogate high ≡ true → is_low_surrogate low ≡ true → Finishes digits (surrogate_pair_char high low) (Part.Low high 0 0)
low_finishes digits high low h is_high is_low =
    let u = digits_of digits low h in
    let v = 0 * 16 + u.p in
    let w = v * 16 + u.q in
    let range = subst (λ (n : ℕ). is_low_surrogate n ≡ true) (sym u.value) is_low in
    let thirteen : v ≡ 13 = first_is v u.q u.r u.s u.small_q u.small_r u.small_s range in
    let least : nat_lt w 220 ≡ false = second_is w u.r u.s u.small_r u.small_s range in
    let character = surrogate_pair_char high low in
    let first : take_byte (Part.Low high 0 0) u.a ≡ Some (Taken.More (Part.Low high 1 v)) = low_is high 0 0 u.a u.p u.hex_a ∙ first_grown high v thirteen in
    let second : take_byte (Part.Low high 1 v) u.b ≡ Some (Taken.More (Part.Low high 2 w)) = low_is high 1 v u.b u.q u.hex_b ∙ (rw least refl) in
    let third : take_byte (Part.Low high 2 w) u.c ≡ Some (Taken.More (Part.Low high 3 (w * 16 + u.r))) = low_is high 2 w u.c u.r u.hex_c in
    let fourth : take_byte (Part.Low high 3 (w * 16 + u.r)) u.d ≡ Some (Taken.Whole character) =
    low_is high 3 (w * 16 + u.r) u.d u.s u.hex_d ∙ ap (λ (n : ℕ). grow_low high 3 n) u.value ∙ (rw (pair_scalar high low is_high is_low) refl) in
    subst (λ (bytes : List ℕ). Finishes bytes character (Part.Low high 0 0)) (sym u.parts)
    (finish_more (Part.Low high 0 0) (Part.Low high 1 v) u.a (u.b ∷ u.c ∷ u.d ∷ []) character first
    (finish_more (Part.Low high 1 v) (Part.Low high 2 w) u.b (u.c ∷ u.d ∷ []) character second
    (finish_more (Part.Low high 2 w) (Part.Low high 3 (w * 16 + u.r)) u.c (u.d ∷ []) character third
    (finish_last (Part.Low high 3 (w * 16 + u.r)) u.d character fourth))))
  where
    first_is : (v q r s : ℕ) → q < 16 → r < 16 → s < 16 → is_low_surrogate (((v * 16 + q) * 16 + r) * 16 + s) ≡ true → v ≡ 13
    first_is v q r s small_q small_r small_s e = grind (arith, nat_tests)

    second_is : (w r s : ℕ) → r < 16 → s < 16 → is_low_surrogate ((w * 16 + r) * 16 + s) ≡ true → nat_lt w 220 ≡ false
    second_is w r s small_r small_s e = grind (arith, nat_tests)

    first_grown : (high v : ℕ) → v ≡ 13 → grow_low high 0 v ≡ Some (Taken.More (Part.Low high 1 v))
    first_grown high v e = let same : (v == 13) ≡ true = grind (arith, nat_tests) in rw same refl

-- ---- two surrogates

high_within : (unit : ℕ) → is_high_surrogate unit ≡ true → is_within 55296 56319 unit ≡ true
high_within unit e = grind (arith, nat_tests)

high_no_low : (unit : ℕ) → is_high_surrogate unit ≡ true → is_low_surrogate unit ≡ false
high_no_low unit e = grind (arith, nat_tests)

pub pair_finishes : (before after : List ℕ) (high low : ℕ) → IsUnit before high → IsUnit after low → is_high_surrogate high ≡ true → is_low_surrogate low ≡ true →
    Finishes (before ++ unit_text after) (surrogate_pair_char high low) (Part.Code 0 0)
pair_finishes before after high low h k is_high is_low =
    let last : grow_code 3 high ≡ Some (Taken.More (Part.High high)) = rw (high_within high is_high) refl in
    let character = surrogate_pair_char high low in
    code_digits before (unit_text after) high character h (high_no_low high is_high)
    (subst (λ (o : Option Taken). FinishesOn (unit_text after) o character (λ more. Finishes (unit_text after) character more)) (sym last) (low_finishes after high low k is_high is_low))
