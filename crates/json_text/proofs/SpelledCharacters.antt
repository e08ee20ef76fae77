-- A text that spells characters is taken byte by byte, and gives what it spells.
use Rattle.std.proofs.Common.{◌≡◌, ◌<◌, ℕ, zero, suc, refl, sym, ◌∙◌, subst, arith, List, [], ◌∷◌, length, Some}
use Rattle.std.specs.Prelude.{slice_index_or}
use Rattle.std.specs.List.{AllByRecursion}
use Rattle.std.specs.Char.{encode_utf8}
use Rattle.std.specs.Char.Utf16.{surrogate_pair_char}
use Rattle.std.proofs.lemmas.Str.{encode_ascii}
use Rattle.json_text.specs.CharacterSteps.{escaped_letter}
use Rattle.json_text.specs.Strings.{SpellsCharacter, plain, short, code, pair, short_escapes}
use Rattle.json_text.specs.declared.character.Part.{Part}
use Rattle.json_text.specs.declared.character.Taken.{Taken}
use Rattle.json_text.proofs.Completion.{Finishes}
use Rattle.json_text.proofs.Scalars.{scalar_same}
use Rattle.json_text.proofs.CharacterBytes.{plain_finishes, finish_last}
use Rattle.json_text.proofs.CodeBytes.{code_finishes, pair_finishes}

-- a letter that may stand behind a backslash, and its character
abbrev IsEscape : ℕ × ℕ → Type 0
IsEscape e = (escaped_letter e.0 ≡ Some (Taken.Whole e.1)) × (e.1 < 128)

listed : (escapes : List (ℕ × ℕ)) → AllByRecursion IsEscape escapes → (e : ℕ × ℕ) (k : ℕ) → k < length escapes → slice_index_or escapes k e ≡ e → IsEscape e
listed [] all e k within is = absurd (omega arith)
listed (x ∷ escapes) all e zero within is = subst IsEscape is all.0
listed (x ∷ escapes) all e (suc k) within is = listed escapes all.1 e k (omega arith) is

all_escapes : AllByRecursion IsEscape short_escapes
all_escapes =
    ((refl, omega arith), ((refl, omega arith), ((refl, omega arith), ((refl, omega arith), ((refl, omega arith), ((refl, omega arith), ((refl, omega arith), ((refl, omega arith), tt))))))))

-- the bytes of a text that spells a character take it to its end, as that character
pub spelled_finishes : (text bytes : List ℕ) → SpellsCharacter text bytes → (character : ℕ) × Finishes text character Part.Due × (bytes ≡ encode_utf8 character)
spelled_finishes text bytes (plain c is_plain text_is bytes_are) = (c, subst (λ (t : List ℕ). Finishes t c Part.Due) (sym text_is) (plain_finishes c is_plain), bytes_are)
spelled_finishes text bytes (short letter c has text_is bytes_are) =
    let e = listed short_escapes all_escapes (letter, c) has.0 has.1 has.2 in
    (c, subst (λ (t : List ℕ). Finishes t c Part.Due) (sym text_is) (finish_last Part.Escape letter c e.0), bytes_are ∙ sym (encode_ascii c e.1))
spelled_finishes text bytes (code digits c is_unit scalar text_is bytes_are) =
    (c, subst (λ (t : List ℕ). Finishes t c Part.Due) (sym text_is) (code_finishes digits c is_unit (scalar_same c ∙ scalar)), bytes_are)
spelled_finishes text bytes (pair before after high low is_before is_after is_high is_low text_is bytes_are) =
    let c = surrogate_pair_char high low in
    (c, subst (λ (t : List ℕ). Finishes t c Part.Due) (sym text_is) (pair_finishes before after high low is_before is_after is_high is_low), bytes_are)
