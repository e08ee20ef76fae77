-- A text with its quotes and backslashes escaped spells the bytes.
use Rattle.std.proofs.Common.{◌≡◌, ◌≢◌, ℕ, zero, suc, ◌<◌, ◌≤◌, inl, inr, true, List, [], ◌∷◌, ◌++◌, length, get_or, refl, sym, ap, ap₂, ◌∙◌, subst, arith, append-nil}
use Rattle.std.specs.List.{AllByRecursion}
use Rattle.std.specs.Char.{IsScalar}
use Rattle.std.specs.Str.{IsUtf8}
use Rattle.std.proofs.lemmas.Bool.{and_parts, cases_lt, cases_eq, ne_eqb}
use Rattle.std.proofs.lemmas.Grind.{flat_map-append}
use Rattle.std.proofs.lemmas.Str.{encode_ascii, inside_one}
use lib.Utf8.{scalars, encode, encodes}
use Rattle.json_text.specs.Strings.{SpellsCharacter, plain, short, SpellsCharacters, escaped_byte, escape}
use Rattle.json_text.specs.Spelling.{SpellsText}

-- each byte is 32 or more
abbrev pub IsPrinted : List ℕ → Type 0
IsPrinted = AllByRecursion (λ b. 32 ≤ b)

printed_front : (xs ys : List ℕ) → IsPrinted (xs ++ ys) → IsPrinted xs
printed_front [] ys h = tt
printed_front (x ∷ xs) ys h = (h.0, printed_front xs ys h.1)

printed_rest : (xs ys : List ℕ) → IsPrinted (xs ++ ys) → IsPrinted ys
printed_rest [] ys h = h
printed_rest (x ∷ xs) ys h = printed_rest xs ys h.1

printed_at : (xs : List ℕ) → IsPrinted xs → (k : ℕ) → k < length xs → 32 ≤ get_or xs k 0
printed_at [] h k in' = absurd (omega arith)
printed_at (x ∷ xs) h zero in' = h.0
printed_at (x ∷ xs) h (suc k) in' = printed_at xs h.1 k (omega arith)

other_byte : (b : ℕ) → b ≢ 34 → b ≢ 92 → escaped_byte b ≡ b ∷ []
other_byte b quote backslash = rw (ne_eqb b 34 quote, ne_eqb b 92 backslash) refl

other_bytes : (xs : List ℕ) → ((k : ℕ) → k < length xs → (get_or xs k 0 ≢ 34) × (get_or xs k 0 ≢ 92)) → escape xs ≡ xs
other_bytes [] h = refl
other_bytes (x ∷ xs) h =
    let first = h 0 (omega arith) in
    ap₂ (λ (a b : List ℕ). a ++ b) (other_byte x first.0 first.1) (other_bytes xs (λ k in'. h (suc k) (omega arith)))

-- a byte below 128 of a character is the character
byte_of : (c k : ℕ) → k < length (encode c) → get_or (encode c) k 0 < 128 → c ≡ get_or (encode c) k 0
byte_of c k in' low = inside_one c [] (encode c) k (sym (append-nil _)) in' low

other_character : (c : ℕ) → c ≢ 34 → c ≢ 92 → escape (encode c) ≡ encode c
other_character c quote backslash =
    other_bytes (encode c) (λ k in'.
    (λ e. quote (byte_of c k in' (omega arith) ∙ e), λ e. backslash (byte_of c k in' (omega arith) ∙ e)))

printed_character : (c : ℕ) → IsPrinted (encode c) → 32 ≤ c
printed_character c h = elim (cases_lt c 32) [
  | inl small ↦ absurd (let first = (subst IsPrinted (encode_ascii c (omega arith)) h).0 in omega arith)
  | inr big ↦ big
]

escape_of : (c : ℕ) → c < 128 → escaped_byte c ≡ 92 ∷ c ∷ [] → ((letter : ℕ) → c ≡ letter → SpellsCharacter (92 ∷ letter ∷ []) (letter ∷ [])) → SpellsCharacter (escape (encode c)) (encode c)
escape_of c small e rule =
    let one : encode c ≡ c ∷ [] = encode_ascii c small in
    subst (λ (bytes : List ℕ). SpellsCharacter (escape bytes) bytes) (sym one) (subst (λ (text : List ℕ). SpellsCharacter (text ++ []) (c ∷ [])) (sym e) (rule c refl))

spells_character : (c : ℕ) → IsScalar c → IsPrinted (encode c) → SpellsCharacter (escape (encode c)) (encode c)
spells_character c scalar printed = elim (cases_eq c 34) [
  | inl quote ↦ subst (λ (d : ℕ). SpellsCharacter (escape (encode d)) (encode d)) (sym quote) (escape_of 34 (omega arith) refl (λ l e. subst (λ (d : ℕ). SpellsCharacter (92 ∷ d ∷ []) (d ∷ [])) e (short 34 34 (0, omega arith, refl) refl refl)))
  | inr no_quote ↦ elim (cases_eq c 92) [
    | inl backslash ↦ subst (λ (d : ℕ). SpellsCharacter (escape (encode d)) (encode d)) (sym backslash) (escape_of 92 (omega arith) refl (λ l e. subst (λ (d : ℕ). SpellsCharacter (92 ∷ d ∷ []) (d ∷ [])) e (short 92 92 (1, omega arith, refl) refl refl)))
    | inr no_backslash ↦ plain c (record { scalar = scalar; printed = printed_character c printed; no_quote = no_quote; no_backslash = no_backslash }) (other_character c no_quote no_backslash) refl
  ]
]

pub first_character : (c text bytes : List ℕ) → SpellsCharacter text c → (more rest : List ℕ) → SpellsCharacters more rest → SpellsCharacters (c ++ more) (text ++ rest)
first_character c text bytes h more rest s = record {
  characters = (text, c) ∷ s.characters;
  each = (h, s.each);
  text_is = ap (λ (t : List ℕ). text ++ t) s.text_is;
  bytes_are = ap (λ (t : List ℕ). c ++ t) s.bytes_are;
}

spells_characters : (cs : List ℕ) → scalars cs ≡ true → IsPrinted (encodes cs) → SpellsCharacters (encodes cs) (escape (encodes cs))
spells_characters [] scalar printed = record { characters = []; each = tt; text_is = refl; bytes_are = refl }
spells_characters (c ∷ cs) scalar printed =
    let parts = and_parts _ _ scalar in
    let one = spells_character c parts.0 (printed_front (encode c) (encodes cs) printed) in
    let more = spells_characters cs parts.1 (printed_rest (encode c) (encodes cs) printed) in
    subst (λ (text : List ℕ). SpellsCharacters (encode c ++ encodes cs) text) (sym (flat_map-append escaped_byte (encode c) (encodes cs)))
    (first_character (encode c) (escape (encode c)) [] one (encodes cs) (escape (encodes cs)) more)

pub spells_escaped : (bytes : List ℕ) → IsUtf8 bytes → IsPrinted bytes → SpellsCharacters bytes (escape bytes)
spells_escaped bytes utf8 printed =
    subst (λ (bs : List ℕ). SpellsCharacters bs (escape bs)) utf8.1.1 (spells_characters utf8.0 utf8.1.0 (subst IsPrinted (sym utf8.1.1) printed))

-- the text in quotes
pub spells_text : (bytes : List ℕ) → IsUtf8 bytes → IsPrinted bytes → SpellsText bytes (34 ∷ (escape bytes ++ 34 ∷ []))
spells_text bytes utf8 printed = record { inner = escape bytes; spelled = spells_escaped bytes utf8 printed; parts = refl }
