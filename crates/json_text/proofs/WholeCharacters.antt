-- The bytes that make a whole character spell it, given the same of characters of several bytes and of codes.
use Rattle.std.proofs.Common.{◌≡◌, ◌<◌, ◌≤◌, ◌⊎◌, ◌-◌, ℕ, refl, sym, ap, ◌∙◌, subst, inl, inr, arith, Bool, true, false, cond, ◌==◌, ◌||◌, List, [], ◌∷◌, Option, Some}
use Rattle.std.proofs.lemmas.Bool.{or_cases}
use Rattle.std.specs.Prelude.{Contains}
use Rattle.std.specs.Char.{IsScalar, encode_utf8}
use Rattle.std.proofs.lemmas.Bool.Decides.{Decides-eqb, nat_tests}
use Rattle.std.proofs.lemmas.Str.{encode_ascii}
use Rattle.std.proofs.Math.Utf8.{low_scalar}
use Rattle.json_text.specs.Strings.{SpellsCharacter, plain, short, short_escapes}
use Rattle.json_text.specs.CharacterSteps.{first_byte, is_within}
use Rattle.json_text.specs.declared.character.Part.{Part}
use Rattle.json_text.specs.declared.character.Taken.{Taken}
use Rattle.json_text.proofs.Completion.{Finishes, FinishesOn}

-- the same of a code of four hex digits, or of two, behind a backslash and the letter u
abbrev pub CodeBack : Type 0
CodeBack = (text : List ℕ) (character : ℕ) → Finishes text character (Part.Code 0 0) → SpellsCharacter (92 ∷ 117 ∷ text) (encode_utf8 character)

-- what a test chooses
pub on_if : (c : Bool) (x y : Option Taken) (bytes : List ℕ) (character : ℕ) (K : Part → Type 0) → FinishesOn bytes (cond c x y) character K →
    ((c ≡ true) × FinishesOn bytes x character K) ⊎ ((c ≡ false) × FinishesOn bytes y character K)
on_if true x y bytes character K h = inl (refl, h)
on_if false x y bytes character K h = inr (refl, h)

-- an escape of one letter
one_letter : (letter c : ℕ) (bytes : List ℕ) (character b : ℕ) → (b == letter) ≡ true → Contains short_escapes (letter, c) → c < 128 → (c ≡ character) × (bytes ≡ []) →
    SpellsCharacter (92 ∷ b ∷ bytes) (encode_utf8 character)
one_letter letter c bytes character b same has small h =
    subst (λ (d : ℕ). SpellsCharacter (92 ∷ b ∷ bytes) (encode_utf8 d)) h.0
    (short letter c has (ap (λ (x : ℕ). 92 ∷ x ∷ bytes) ((Decides-eqb b letter).0 same) ∙ ap (λ (xs : List ℕ). 92 ∷ letter ∷ xs) h.1) (encode_ascii c small))

pub escape_back : CodeBack → (text : List ℕ) (character : ℕ) → Finishes text character Part.Escape → SpellsCharacter (92 ∷ text) (encode_utf8 character)
escape_back code [] character h = absurd h
escape_back code (b ∷ bytes) character h =
    elim (on_if ((b == 34) || (b == 92) || (b == 47)) _ _ bytes character K h) as (λ _. Goal) [
      | inl t ↦ elim (or_cases ((b == 34) || (b == 92)) (b == 47) t.0) as (λ _. Goal) [
        | inl u ↦ elim (or_cases (b == 34) (b == 92) u) as (λ _. Goal) [
          | inl s ↦ one_letter 34 34 bytes character b s (0, omega arith, refl) (omega arith) (sym ((Decides-eqb b 34).0 s) ∙ t.1.0, t.1.1)
          | inr s ↦ one_letter 92 92 bytes character b s (1, omega arith, refl) (omega arith) (sym ((Decides-eqb b 92).0 s) ∙ t.1.0, t.1.1)
        ]
        | inr s ↦ one_letter 47 47 bytes character b s (2, omega arith, refl) (omega arith) (sym ((Decides-eqb b 47).0 s) ∙ t.1.0, t.1.1)
      ]
      | inr t1 ↦ elim (on_if (b == 98) _ _ bytes character K t1.1) as (λ _. Goal) [
        | inl t ↦ one_letter 98 8 bytes character b t.0 (3, omega arith, refl) (omega arith) t.1
        | inr t2 ↦ elim (on_if (b == 102) _ _ bytes character K t2.1) as (λ _. Goal) [
          | inl t ↦ one_letter 102 12 bytes character b t.0 (4, omega arith, refl) (omega arith) t.1
          | inr t3 ↦ elim (on_if (b == 110) _ _ bytes character K t3.1) as (λ _. Goal) [
            | inl t ↦ one_letter 110 10 bytes character b t.0 (5, omega arith, refl) (omega arith) t.1
            | inr t4 ↦ elim (on_if (b == 114) _ _ bytes character K t4.1) as (λ _. Goal) [
              | inl t ↦ one_letter 114 13 bytes character b t.0 (6, omega arith, refl) (omega arith) t.1
              | inr t5 ↦ elim (on_if (b == 116) _ _ bytes character K t5.1) as (λ _. Goal) [
                | inl t ↦ one_letter 116 9 bytes character b t.0 (7, omega arith, refl) (omega arith) t.1
                | inr t6 ↦ elim (on_if (b == 117) _ _ bytes character K t6.1) as (λ _. Goal) [
                  | inl t ↦ subst (λ (x : ℕ). SpellsCharacter (92 ∷ x ∷ bytes) (encode_utf8 character)) (sym ((Decides-eqb b 117).0 t.0)) (code bytes character t.1)
                  | inr t7 ↦ absurd t7.1
                ]
              ]
            ]
          ]
        ]
      ]
    ]
  where
    K : Part → Type 0
    K more = Finishes bytes character more

    Goal : Type 0
    Goal = SpellsCharacter (92 ∷ b ∷ bytes) (encode_utf8 character)

-- the same of a character of two to four bytes
abbrev pub SeveralBack : Type 0
SeveralBack = (b left front : ℕ) (bytes : List ℕ) (character : ℕ) → first_byte b ≡ Some (Taken.More (Part.Utf8 left front)) → Finishes bytes character (Part.Utf8 left front) →
    SpellsCharacter (b ∷ bytes) (encode_utf8 character)

-- a character of one byte
one_byte : (b character : ℕ) (bytes : List ℕ) → (b == 34) ≡ false → (b == 92) ≡ false → is_within 32 127 b ≡ true → (b ≡ character) × (bytes ≡ []) → SpellsCharacter (b ∷ bytes) (encode_utf8 character)
one_byte b character bytes quote backslash within h =
    let low : 32 ≤ b = grind (arith, nat_tests) in
    let high : b < 128 = grind (arith, nat_tests) in
    let scalar : IsScalar b = low_scalar b (omega arith) in
    subst (λ (d : ℕ). SpellsCharacter (b ∷ bytes) (encode_utf8 d)) h.0
    (plain b (record {
      scalar = scalar;
      printed = low;
      no_quote = λ e. (let bad : true ≡ false = sym ((Decides-eqb b 34).1 e) ∙ quote in cc);
      no_backslash = λ e. (let bad : true ≡ false = sym ((Decides-eqb b 92).1 e) ∙ backslash in cc);
    }) (ap (λ (xs : List ℕ). b ∷ xs) h.1 ∙ sym (encode_ascii b high)) refl)

pub due_back : SeveralBack → CodeBack → (text : List ℕ) (character : ℕ) → Finishes text character Part.Due → SpellsCharacter text (encode_utf8 character)
due_back several code [] character h = absurd h
due_back several code (b ∷ bytes) character h =
    elim (on_if (b == 34) _ _ bytes character K h) as (λ _. Goal) [
      | inl t ↦ absurd t.1
      | inr t1 ↦ elim (on_if (b == 92) _ _ bytes character K t1.1) as (λ _. Goal) [
        | inl t ↦ subst (λ (x : ℕ). SpellsCharacter (x ∷ bytes) (encode_utf8 character)) (sym ((Decides-eqb b 92).0 t.0)) (escape_back code bytes character t.1)
        | inr t2 ↦ elim (on_if (is_within 32 127 b) _ _ bytes character K t2.1) as (λ _. Goal) [
          | inl t ↦ one_byte b character bytes t1.0 t2.0 t.0 t.1
          | inr t3 ↦ elim (on_if (is_within 194 223 b) _ _ bytes character K t3.1) as (λ _. Goal) [
            | inl t ↦ several b 1 (b - 192) bytes character (rw (t1.0, t2.0, t3.0, t.0) refl) t.1
            | inr t4 ↦ elim (on_if (is_within 224 239 b) _ _ bytes character K t4.1) as (λ _. Goal) [
              | inl t ↦ several b 2 (b - 224) bytes character (rw (t1.0, t2.0, t3.0, t4.0, t.0) refl) t.1
              | inr t5 ↦ elim (on_if (is_within 240 244 b) _ _ bytes character K t5.1) as (λ _. Goal) [
                | inl t ↦ several b 3 (b - 240) bytes character (rw (t1.0, t2.0, t3.0, t4.0, t5.0, t.0) refl) t.1
                | inr t6 ↦ absurd t6.1
              ]
            ]
          ]
        ]
      ]
    ]
  where
    K : Part → Type 0
    K more = Finishes bytes character more

    Goal : Type 0
    Goal = SpellsCharacter (b ∷ bytes) (encode_utf8 character)
