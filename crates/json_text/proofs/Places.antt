-- Where the next byte stands, and what one byte does to the count of open brackets and braces.
use Rattle.std.proofs.Common.{◌≡◌, ◌==◌, ℕ, zero, suc, ◌<◌, refl, sym, subst, inl, inr, arith, true, false, List, ◌∷◌, length}
use Rattle.std.specs.Prelude.{slice_index}
use Rattle.std.specs.Char.{is_ascii_digit}
use Rattle.std.proofs.lemmas.Bool.Decides.{Decides-eqb}
use Rattle.json_text.specs.Faults.{Place, nesting_from}
use Rattle.json_text.specs.Faults.Place.{Outside, Quoted, Escaped}
use Rattle.json_text.specs.Modes.{is_space, word_text}
use Rattle.json_text.specs.declared.character.Part.{Part}
use Rattle.json_text.specs.declared.mode.Word.{Word}
use Rattle.json_text.specs.declared.mode.Mode.{Mode}
use Rattle.json_text.proofs.Back.{IsSpaceByte, space_byte}
use Rattle.json_text.proofs.NumberLemmas.{no_digit}

-- the byte behind a backslash is escaped
abbrev pub place_in : Part → Place
place_in Part.Due = Quoted
place_in (Part.Utf8 left front) = Quoted
place_in Part.Escape = Escaped
place_in (Part.Code digits value) = Quoted
place_in (Part.High high) = Quoted
place_in (Part.Slash high) = Escaped
place_in (Part.Low high digits value) = Quoted

-- where the next byte stands, by what is due
abbrev pub place_of : Mode → Place
place_of (Mode.Text part) = place_in part
place_of _ = Outside

-- a byte there, with so many open before it, leads to that place, with so many open behind it
abbrev pub Counts : Place → ℕ → ℕ → Place → ℕ → Type 0
Counts place n byte next m = (rest : List ℕ) → nesting_from place n (byte ∷ rest) ≡ nesting_from next m rest

pub counts_to : (place : Place) (n byte : ℕ) (next : Place) (m k : ℕ) → m ≡ k → Counts place n byte next m → Counts place n byte next k
counts_to place n byte next m k e h = subst (λ (j : ℕ). Counts place n byte next j) e h

-- the byte is that one
pub at_byte : (place : Place) (n b c : ℕ) (next : Place) (m : ℕ) → (b == c) ≡ true → Counts place n c next m → Counts place n b next m
at_byte place n b c next m same h = subst (λ (x : ℕ). Counts place n x next m) (sym ((Decides-eqb b c).0 same)) h

-- a byte outside of quotes that is no bracket, no brace and no quote
pub plain_byte : (n b : ℕ) → (b == 34) ≡ false → (b == 91) ≡ false → (b == 123) ≡ false → (b == 93) ≡ false → (b == 125) ≡ false → Counts Outside n b Outside n
plain_byte n b quote opens begins closes ends rest = rw (quote, opens, begins, closes, ends) refl

pub digit_byte : (n b : ℕ) → is_ascii_digit b ≡ true → Counts Outside n b Outside n
digit_byte n b e = plain_byte n b (no_digit b 34 e refl) (no_digit b 91 e refl) (no_digit b 123 e refl) (no_digit b 93 e refl) (no_digit b 125 e refl)

space_counts : (n b : ℕ) → IsSpaceByte b → Counts Outside n b Outside n
space_counts n b s = elim s as (λ _. Counts Outside n b Outside n) [
  | inl e ↦ subst (λ (x : ℕ). Counts Outside n x Outside n) (sym e) (λ rest. refl)
  | inr (inl e) ↦ subst (λ (x : ℕ). Counts Outside n x Outside n) (sym e) (λ rest. refl)
  | inr (inr (inl e)) ↦ subst (λ (x : ℕ). Counts Outside n x Outside n) (sym e) (λ rest. refl)
  | inr (inr (inr e)) ↦ subst (λ (x : ℕ). Counts Outside n x Outside n) (sym e) (λ rest. refl)
]

-- white space outside of quotes
pub space_stays : (n b : ℕ) → is_space b ≡ true → Counts Outside n b Outside n
space_stays n b e = space_counts n b (space_byte b e)

-- a byte between quotes that is no quote and no backslash
pub quoted_byte : (n b : ℕ) → (b == 34) ≡ false → (b == 92) ≡ false → Counts Quoted n b Quoted n
quoted_byte n b quote slash rest = rw (quote, slash) refl

letter_at : (word : Word) (done n : ℕ) → done < length (word_text word) → Counts Outside n (slice_index (word_text word) done) Outside n
letter_at Word.Null zero n h rest = refl
letter_at Word.Null (suc zero) n h rest = refl
letter_at Word.Null (suc (suc zero)) n h rest = refl
letter_at Word.Null (suc (suc (suc zero))) n h rest = refl
letter_at Word.Null (suc (suc (suc (suc k)))) n h rest = absurd (omega arith)
letter_at Word.True zero n h rest = refl
letter_at Word.True (suc zero) n h rest = refl
letter_at Word.True (suc (suc zero)) n h rest = refl
letter_at Word.True (suc (suc (suc zero))) n h rest = refl
letter_at Word.True (suc (suc (suc (suc k)))) n h rest = absurd (omega arith)
letter_at Word.False zero n h rest = refl
letter_at Word.False (suc zero) n h rest = refl
letter_at Word.False (suc (suc zero)) n h rest = refl
letter_at Word.False (suc (suc (suc zero))) n h rest = refl
letter_at Word.False (suc (suc (suc (suc zero)))) n h rest = refl
letter_at Word.False (suc (suc (suc (suc (suc k))))) n h rest = absurd (omega arith)

-- a letter of a word
pub letter_stays : (word : Word) (done n b : ℕ) → done < length (word_text word) → (slice_index (word_text word) done == b) ≡ true → Counts Outside n b Outside n
letter_stays word done n b h same = subst (λ (x : ℕ). Counts Outside n x Outside n) ((Decides-eqb (slice_index (word_text word) done) b).0 same) (letter_at word done n h)
