-- A character that stands for itself is taken byte by byte.
use Rattle.std.proofs.Common.{◌≡◌, ◌≢◌, ◌≤◌, ◌<◌, ℕ, ◌+◌, ◌-◌, ◌*◌, ◌/◌, ◌%◌, refl, sym, ap, ◌∙◌, subst, inl, inr, arith, true, false, List, [], ◌∷◌, Option, Some}
use Rattle.std.specs.Char.{encode_utf8}
use Rattle.std.proofs.lemmas.Bool.{cases_lt, ne_eqb}
use Rattle.std.proofs.lemmas.Bool.Decides.{nat_tests}
use Rattle.std.proofs.lemmas.Str.{encode_ascii}
use Rattle.json_text.specs.CharacterSteps.{take_byte, first_byte, next_byte, grow, whole, is_front, is_scalar, is_within}
use Rattle.json_text.specs.Strings.{IsPlain}
use Rattle.json_text.specs.declared.character.Part.{Part}
use Rattle.json_text.specs.declared.character.Taken.{Taken}
use Rattle.json_text.proofs.Completion.{Finishes, FinishesOn}
use Rattle.json_text.proofs.Scalars.{scalar_same}
use Rattle.json_text.proofs.Utf8Bytes.{encode_two, encode_three, encode_four}

-- a byte, and what finishes the part that it makes
pub finish_more : (part next : Part) (b : ℕ) (bytes : List ℕ) (character : ℕ) → take_byte part b ≡ Some (Taken.More next) → Finishes bytes character next → Finishes (b ∷ bytes) character part
finish_more part next b bytes character e h = subst (λ (o : Option Taken). FinishesOn bytes o character (λ more. Finishes bytes character more)) (sym e) h

-- the last byte
pub finish_last : (part : Part) (b character : ℕ) → take_byte part b ≡ Some (Taken.Whole character) → Finishes (b ∷ []) character part
finish_last part b character e = subst (λ (o : Option Taken). FinishesOn [] o character (λ more. Finishes [] character more)) (sym e) (refl, refl)

-- ---- the first byte

first_one : (c : ℕ) → 32 ≤ c → c < 128 → c ≢ 34 → c ≢ 92 → first_byte c ≡ Some (Taken.Whole c)
first_one c low high quote backslash =
    let printed : is_within 32 127 c ≡ true = grind (arith, nat_tests) in
    rw (ne_eqb c 34 quote, ne_eqb c 92 backslash, printed) refl

outside : (low high n : ℕ) → high < n → is_within low high n ≡ false
outside low high n above = grind (arith, nat_tests)

inside : (low high n : ℕ) → low ≤ n → n ≤ high → is_within low high n ≡ true
inside low high n least most = grind (arith, nat_tests)

first_two : (f : ℕ) → 2 ≤ f → f < 32 → first_byte (192 + f) ≡ Some (Taken.More (Part.Utf8 1 f))
first_two f least most =
    let bits : 192 + f - 192 ≡ f = omega arith in
    rw (ne_eqb (192 + f) 34 (λ e. omega arith), ne_eqb (192 + f) 92 (λ e. omega arith), outside 32 127 (192 + f) (omega arith), inside 194 223 (192 + f) (omega arith) (omega arith), bits) refl

first_three : (f : ℕ) → f < 16 → first_byte (224 + f) ≡ Some (Taken.More (Part.Utf8 2 f))
first_three f most =
    let bits : 224 + f - 224 ≡ f = omega arith in
    rw (
      ne_eqb (224 + f) 34 (λ e. omega arith),
      ne_eqb (224 + f) 92 (λ e. omega arith),
      outside 32 127 (224 + f) (omega arith),
      outside 194 223 (224 + f) (omega arith),
      inside 224 239 (224 + f) (omega arith) (omega arith),
      bits,
    ) refl

first_four : (f : ℕ) → f < 5 → first_byte (240 + f) ≡ Some (Taken.More (Part.Utf8 3 f))
first_four f most =
    let bits : 240 + f - 240 ≡ f = omega arith in
    rw (
      ne_eqb (240 + f) 34 (λ e. omega arith),
      ne_eqb (240 + f) 92 (λ e. omega arith),
      outside 32 127 (240 + f) (omega arith),
      outside 194 223 (240 + f) (omega arith),
      outside 224 239 (240 + f) (omega arith),
      inside 240 244 (240 + f) (omega arith) (omega arith),
      bits,
    ) refl

-- ---- a further byte

pub next_is : (left front r : ℕ) → r < 64 → next_byte left front (128 + r) ≡ grow (left - 1) (front * 64 + r)
next_is left front r small =
    let bits : 128 + r - 128 ≡ r = omega arith in
    rw (inside 128 191 (128 + r) (omega arith) (omega arith), bits) refl

-- the last byte of a character
pub last_byte : (front r character : ℕ) → r < 64 → character ≡ front * 64 + r → is_scalar character ≡ true → Finishes ((128 + r) ∷ []) character (Part.Utf8 1 front)
last_byte front r character small e scalar =
    finish_last (Part.Utf8 1 front) (128 + r) character (next_is 1 front r small ∙ ap whole (sym e) ∙ (rw scalar refl))

-- one before the last
pub second_last : (front r character : ℕ) (bytes : List ℕ) → r < 64 → is_front 1 (front * 64 + r) ≡ true → Finishes bytes character (Part.Utf8 1 (front * 64 + r)) → Finishes ((128 + r) ∷ bytes) character (Part.Utf8 2 front)
second_last front r character bytes small e h = finish_more (Part.Utf8 2 front) (Part.Utf8 1 (front * 64 + r)) (128 + r) bytes character (next_is 2 front r small ∙ (rw e refl)) h

-- two before the last
pub third_last : (front r character : ℕ) (bytes : List ℕ) → r < 64 → is_front 2 (front * 64 + r) ≡ true → Finishes bytes character (Part.Utf8 2 (front * 64 + r)) → Finishes ((128 + r) ∷ bytes) character (Part.Utf8 3 front)
third_last front r character bytes small e h = finish_more (Part.Utf8 3 front) (Part.Utf8 2 (front * 64 + r)) (128 + r) bytes character (next_is 3 front r small ∙ (rw e refl)) h

-- ---- whole characters

plain_one : (c : ℕ) → IsPlain c → c < 128 → Finishes (encode_utf8 c) c Part.Due
plain_one c plain small =
    subst (λ (bytes : List ℕ). Finishes bytes c Part.Due) (sym (encode_ascii c small)) (finish_last Part.Due c c (first_one c plain.printed small plain.no_quote plain.no_backslash))

plain_two : (c f r : ℕ) → c ≡ f * 64 + r → r < 64 → 2 ≤ f → f < 32 → is_scalar c ≡ true → Finishes (encode_utf8 c) c Part.Due
plain_two c f r e small few most scalar =
    subst (λ (bytes : List ℕ). Finishes bytes c Part.Due) (sym (encode_two c f r e small few most))
    (finish_more Part.Due (Part.Utf8 1 f) (192 + f) ((128 + r) ∷ []) c (first_two f few most) (last_byte f r c small e scalar))

front_two : (c front r : ℕ) → c ≡ front * 64 + r → r < 64 → 32 ≤ front → is_scalar c ≡ true → is_front 1 front ≡ true
front_two c front r e small few scalar = grind (arith, nat_tests)

plain_three : (c f s r : ℕ) → c ≡ (f * 64 + s) * 64 + r → s < 64 → r < 64 → 32 ≤ f * 64 + s → f < 16 → is_scalar c ≡ true → Finishes (encode_utf8 c) c Part.Due
plain_three c f s r e small_s small_r few most scalar =
    subst (λ (bytes : List ℕ). Finishes bytes c Part.Due) (sym (encode_three c f s r e small_s small_r few most))
    (finish_more Part.Due (Part.Utf8 2 f) (224 + f) ((128 + s) ∷ (128 + r) ∷ []) c (first_three f most)
    (second_last f s c ((128 + r) ∷ []) small_s (front_two c (f * 64 + s) r e small_r few scalar) (last_byte (f * 64 + s) r c small_r e scalar)))

front_three : (front : ℕ) → 16 ≤ front → front ≤ 271 → is_front 2 front ≡ true
front_three front few most = grind (arith, nat_tests)

plain_four : (c f s t r : ℕ) → c ≡ ((f * 64 + s) * 64 + t) * 64 + r → s < 64 → t < 64 → r < 64 → 16 ≤ f * 64 + s → f * 64 + s ≤ 271 → is_scalar c ≡ true → Finishes (encode_utf8 c) c Part.Due
plain_four c f s t r e small_s small_t small_r few most scalar =
    subst (λ (bytes : List ℕ). Finishes bytes c Part.Due) (sym (encode_four c f s t r e small_s small_t small_r few))
    (finish_more Part.Due (Part.Utf8 3 f) (240 + f) ((128 + s) ∷ (128 + t) ∷ (128 + r) ∷ []) c (first_four f (omega arith))
    (third_last f s c ((128 + t) ∷ (128 + r) ∷ []) small_s (front_three (f * 64 + s) few most)
    (second_last (f * 64 + s) t c ((128 + r) ∷ []) small_t (front_two c ((f * 64 + s) * 64 + t) r e small_r (omega arith) scalar) (last_byte ((f * 64 + s) * 64 + t) r c small_r e scalar))))

most_code : (c : ℕ) → is_scalar c ≡ true → c ≤ 1114111
most_code c scalar = grind (arith, nat_tests)

-- the bytes of such a character
pub plain_finishes : (c : ℕ) → IsPlain c → Finishes (encode_utf8 c) c Part.Due
plain_finishes c plain =
    let scalar : is_scalar c ≡ true = scalar_same c ∙ plain.scalar in
    let most = most_code c scalar in
    elim (cases_lt c 128) [
      | inl one ↦ plain_one c plain one
      | inr several ↦ elim (cases_lt c 2048) [
        | inl two ↦ plain_two c (c / 64) (c % 64) (omega arith) (omega arith) (omega arith) (omega arith) scalar
        | inr more ↦ elim (cases_lt c 65536) [
          | inl three ↦ plain_three c (c / 4096) ((c / 64) % 64) (c % 64) (omega arith) (omega arith) (omega arith) (omega arith) (omega arith) scalar
          | inr four ↦ plain_four c (c / 262144) ((c / 4096) % 64) ((c / 64) % 64) (c % 64) (omega arith) (omega arith) (omega arith) (omega arith) (omega arith) (omega arith) scalar
        ]
      ]
    ]
