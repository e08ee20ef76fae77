-- The bytes of a character of two to four bytes spell it.
use Rattle.std.proofs.Common.{◌≡◌, ◌≤◌, ◌<◌, ◌⊎◌, ℕ, ◌+◌, ◌-◌, ◌*◌, ◌==◌, refl, sym, ap, ◌∙◌, subst, inl, inr, arith, Bool, true, false, cond, List, [], ◌∷◌, Option, None, Some}
use Rattle.std.specs.Char.{encode_utf8}
use Rattle.std.proofs.lemmas.Bool.Decides.{nat_tests}
use Rattle.json_text.specs.CharacterSteps.{grow, is_front, is_scalar, is_within}
use Rattle.json_text.specs.Strings.{SpellsCharacter, plain}
use Rattle.json_text.specs.declared.character.Part.{Part}
use Rattle.json_text.specs.declared.character.Taken.{Taken}
use Rattle.json_text.proofs.Completion.{Finishes, FinishesOn}
use Rattle.json_text.proofs.WholeCharacters.{on_if, SeveralBack}
use Rattle.json_text.proofs.Scalars.{scalar_same}
use Rattle.json_text.proofs.Utf8Bytes.{encode_two, encode_three, encode_four}

-- a byte behind the first, as its six bits
pub record IsTail (byte : ℕ) (bits : ℕ) : Type 0 where
  pub small : bits < 64
  pub byte_is : byte ≡ 128 + bits

tail_of : (byte : ℕ) → is_within 128 191 byte ≡ true → IsTail byte (byte - 128)
tail_of byte e = record { small = grind (arith, nat_tests); byte_is = grind (arith, nat_tests) }

tail_step : (left front byte : ℕ) (bytes : List ℕ) (character : ℕ) → Finishes (byte ∷ bytes) character (Part.Utf8 left front) →
    IsTail byte (byte - 128) × FinishesOn bytes (grow (left - 1) (front * 64 + (byte - 128))) character (λ more. Finishes bytes character more)
tail_step left front byte bytes character h =
    elim (on_if (is_within 128 191 byte) _ _ bytes character (λ more. Finishes bytes character more) h) as (λ _. IsTail byte (byte - 128) × FinishesOn bytes (grow (left - 1) (front * 64 + (byte - 128))) character (λ more. Finishes bytes character more)) [
      | inl t ↦ (tail_of byte t.0, t.1)
      | inr t ↦ absurd t.1
    ]

-- the last byte
last_step : (front byte : ℕ) (bytes : List ℕ) (character : ℕ) → Finishes (byte ∷ bytes) character (Part.Utf8 1 front) →
    IsTail byte (byte - 128) × (is_scalar character ≡ true) × (character ≡ front * 64 + (byte - 128)) × (bytes ≡ [])
last_step front byte bytes character h =
    let s = tail_step 1 front byte bytes character h in
    elim (on_if (is_scalar (front * 64 + (byte - 128))) _ _ bytes character (λ more. Finishes bytes character more) s.1) as (λ _. IsTail byte (byte - 128) × (is_scalar character ≡ true) × (character ≡ front * 64 + (byte - 128)) × (bytes ≡ [])) [
      | inl t ↦ (s.0, subst (λ (c : ℕ). is_scalar c ≡ true) t.1.0 t.0, sym t.1.0, t.1.1)
      | inr t ↦ absurd t.1
    ]

-- a byte with more behind it
front_step : (left front byte : ℕ) (bytes : List ℕ) (character : ℕ) → (left - 1 == 0) ≡ false → Finishes (byte ∷ bytes) character (Part.Utf8 left front) →
    IsTail byte (byte - 128) × (is_front (left - 1) (front * 64 + (byte - 128)) ≡ true) × Finishes bytes character (Part.Utf8 (left - 1) (front * 64 + (byte - 128)))
front_step left front byte bytes character more h =
    let s = tail_step left front byte bytes character h in
    let Goal : Type 0 = IsTail byte (byte - 128) × (is_front (left - 1) (front * 64 + (byte - 128)) ≡ true) × Finishes bytes character (Part.Utf8 (left - 1) (front * 64 + (byte - 128))) in
    elim (on_if (left - 1 == 0) _ _ bytes character (λ more. Finishes bytes character more) s.1) as (λ _. Goal) [
      | inl t ↦ absurd (let bad : true ≡ false = sym t.0 ∙ more in cc)
      | inr t ↦ elim (on_if (is_front (left - 1) (front * 64 + (byte - 128))) _ _ bytes character (λ more. Finishes bytes character more) t.1) as (λ _. Goal) [
        | inl k ↦ (s.0, k.0, k.1)
        | inr k ↦ absurd k.1
      ]
    ]

-- a character of 128 or more stands for itself
plain_back : (text : List ℕ) (character : ℕ) → is_scalar character ≡ true → 128 ≤ character → text ≡ encode_utf8 character → SpellsCharacter text (encode_utf8 character)
plain_back text character scalar high e =
    plain character (record { scalar = sym (scalar_same character) ∙ scalar; printed = omega arith; no_quote = λ f. omega arith; no_backslash = λ f. omega arith }) e refl

two_back : (first : ℕ) (bytes : List ℕ) (character : ℕ) → 194 ≤ first → first ≤ 223 → Finishes bytes character (Part.Utf8 1 (first - 192)) → SpellsCharacter (first ∷ bytes) (encode_utf8 character)
two_back first [] character least most h = absurd h
two_back first (b ∷ bytes) character least most h =
    let s = last_step (first - 192) b bytes character h in
    let tail = s.0 in
    let r = b - 128 in
    let small : r < 64 = tail.small in
    let b_is : b ≡ 128 + r = tail.byte_is in
    let f = first - 192 in
    let first_is : first ≡ 192 + f = omega arith in
    let whole : character ≡ f * 64 + r = s.2 in
    let bytes_are = encode_two character f r whole small (omega arith) (omega arith) in
    plain_back (first ∷ b ∷ bytes) character s.1 (omega arith)
    (ap (λ (xs : List ℕ). first ∷ b ∷ xs) s.3 ∙ ap (λ (x : ℕ). x ∷ b ∷ []) first_is ∙ ap (λ (x : ℕ). (192 + f) ∷ x ∷ []) b_is ∙ sym bytes_are)

three_back : (first : ℕ) (bytes : List ℕ) (character : ℕ) → 224 ≤ first → first ≤ 239 → Finishes bytes character (Part.Utf8 2 (first - 224)) → SpellsCharacter (first ∷ bytes) (encode_utf8 character)
three_back first [] character least most h = absurd h
three_back first (a ∷ []) character least most h = absurd (front_step 2 (first - 224) a [] character refl h).2
three_back first (a ∷ b ∷ bytes) character least most h =
    let u = front_step 2 (first - 224) a (b ∷ bytes) character refl h in
    let s = last_step ((first - 224) * 64 + (a - 128)) b bytes character u.2 in
    let second = u.0 in
    let tail = s.0 in
    let f = first - 224 in
    let q = a - 128 in
    let r = b - 128 in
    let small_q : q < 64 = second.small in
    let small_r : r < 64 = tail.small in
    let a_is : a ≡ 128 + q = second.byte_is in
    let b_is : b ≡ 128 + r = tail.byte_is in
    let first_is : first ≡ 224 + f = omega arith in
    let whole : character ≡ (f * 64 + q) * 64 + r = s.2 in
    let front = u.1 in
    let few : 32 ≤ f * 64 + q = few_bits (f * 64 + q) front in
    let bytes_are = encode_three character f q r whole small_q small_r few (omega arith) in
    plain_back (first ∷ a ∷ b ∷ bytes) character s.1 (omega arith)
    (ap (λ (xs : List ℕ). first ∷ a ∷ b ∷ xs) s.3 ∙ ap (λ (x : ℕ). x ∷ a ∷ b ∷ []) first_is ∙ ap (λ (x : ℕ). (224 + f) ∷ x ∷ b ∷ []) a_is ∙ ap (λ (x : ℕ). (224 + f) ∷ (128 + q) ∷ x ∷ []) b_is ∙ sym bytes_are)
  where
    few_bits : (front : ℕ) → is_front 1 front ≡ true → 32 ≤ front
    few_bits front e = grind (arith, nat_tests)

four_back : (first : ℕ) (bytes : List ℕ) (character : ℕ) → 240 ≤ first → first ≤ 244 → Finishes bytes character (Part.Utf8 3 (first - 240)) → SpellsCharacter (first ∷ bytes) (encode_utf8 character)
four_back first [] character least most h = absurd h
four_back first (a ∷ []) character least most h = absurd (front_step 3 (first - 240) a [] character refl h).2
four_back first (a ∷ b ∷ []) character least most h =
    let u = front_step 3 (first - 240) a (b ∷ []) character refl h in
    absurd (front_step 2 ((first - 240) * 64 + (a - 128)) b [] character refl u.2).2
four_back first (a ∷ b ∷ d ∷ bytes) character least most h =
    let u = front_step 3 (first - 240) a (b ∷ d ∷ bytes) character refl h in
    let v = front_step 2 ((first - 240) * 64 + (a - 128)) b (d ∷ bytes) character refl u.2 in
    let s = last_step (((first - 240) * 64 + (a - 128)) * 64 + (b - 128)) d bytes character v.2 in
    let second = u.0 in
    let third = v.0 in
    let tail = s.0 in
    let f = first - 240 in
    let q = a - 128 in
    let m = b - 128 in
    let r = d - 128 in
    let small_q : q < 64 = second.small in
    let small_m : m < 64 = third.small in
    let small_r : r < 64 = tail.small in
    let a_is : a ≡ 128 + q = second.byte_is in
    let b_is : b ≡ 128 + m = third.byte_is in
    let d_is : d ≡ 128 + r = tail.byte_is in
    let first_is : first ≡ 240 + f = omega arith in
    let whole : character ≡ ((f * 64 + q) * 64 + m) * 64 + r = s.2 in
    let few : 16 ≤ f * 64 + q = few_bits (f * 64 + q) u.1 in
    let bytes_are = encode_four character f q m r whole small_q small_m small_r few in
    plain_back (first ∷ a ∷ b ∷ d ∷ bytes) character s.1 (omega arith)
    (ap (λ (xs : List ℕ). first ∷ a ∷ b ∷ d ∷ xs) s.3 ∙ ap (λ (x : ℕ). x ∷ a ∷ b ∷ d ∷ []) first_is ∙ ap (λ (x : ℕ). (240 + f) ∷ x ∷ b ∷ d ∷ []) a_is
    ∙ ap (λ (x : ℕ). (240 + f) ∷ (128 + q) ∷ x ∷ d ∷ []) b_is ∙ ap (λ (x : ℕ). (240 + f) ∷ (128 + q) ∷ (128 + m) ∷ x ∷ []) d_is ∙ sym bytes_are)
  where
    few_bits : (front : ℕ) → is_front 2 front ≡ true → 16 ≤ front
    few_bits front e = grind (arith, nat_tests)

-- what a test chooses
picks : (c : Bool) (x y : Option Taken) (t : Taken) → cond c x y ≡ Some t → ((c ≡ true) × (x ≡ Some t)) ⊎ ((c ≡ false) × (y ≡ Some t))
picks true x y t e = inl (refl, e)
picks false x y t e = inr (refl, e)

pub several_back : SeveralBack
several_back b left front bytes character e h =
    elim (picks (b == 34) _ _ _ e) as (λ _. Goal) [
      | inl t ↦ absurd (let bad : Some Taken.Quote ≡ Some (Taken.More (Part.Utf8 left front)) = t.1 in cc)
      | inr t1 ↦ elim (picks (b == 92) _ _ _ t1.1) as (λ _. Goal) [
        | inl t ↦ absurd (let bad : Some (Taken.More Part.Escape) ≡ Some (Taken.More (Part.Utf8 left front)) = t.1 in cc)
        | inr t2 ↦ elim (picks (is_within 32 127 b) _ _ _ t2.1) as (λ _. Goal) [
          | inl t ↦ absurd (let bad : Some (Taken.Whole b) ≡ Some (Taken.More (Part.Utf8 left front)) = t.1 in cc)
          | inr t3 ↦ elim (picks (is_within 194 223 b) _ _ _ t3.1) as (λ _. Goal) [
            | inl t ↦ two_back b bytes character (least 194 223 t.0) (most 194 223 t.0) (moved (Part.Utf8 1 (b - 192)) t.1)
            | inr t4 ↦ elim (picks (is_within 224 239 b) _ _ _ t4.1) as (λ _. Goal) [
              | inl t ↦ three_back b bytes character (least 224 239 t.0) (most 224 239 t.0) (moved (Part.Utf8 2 (b - 224)) t.1)
              | inr t5 ↦ elim (picks (is_within 240 244 b) _ _ _ t5.1) as (λ _. Goal) [
                | inl t ↦ four_back b bytes character (least 240 244 t.0) (most 240 244 t.0) (moved (Part.Utf8 3 (b - 240)) t.1)
                | inr t6 ↦ absurd (let bad : None ≡ Some (Taken.More (Part.Utf8 left front)) = t6.1 in cc)
              ]
            ]
          ]
        ]
      ]
    ]
  where
    Goal : Type 0
    Goal = SpellsCharacter (b ∷ bytes) (encode_utf8 character)

    least : (low high : ℕ) → is_within low high b ≡ true → low ≤ b
    least low high within = grind (arith, nat_tests)

    most : (low high : ℕ) → is_within low high b ≡ true → b ≤ high
    most low high within = grind (arith, nat_tests)

    moved : (part : Part) → Some (Taken.More part) ≡ Some (Taken.More (Part.Utf8 left front)) → Finishes bytes character part
    moved part f = let same : part ≡ Part.Utf8 left front = cc in subst (λ (next : Part). Finishes bytes character next) (sym same) h
