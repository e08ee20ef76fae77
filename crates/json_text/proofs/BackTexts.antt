-- A byte of a text in quotes in front of what completes the state behind it, given what whole characters are.
use Rattle.std.proofs.Common.{◌≡◌, ◌==◌, ◌&&◌, ◌||◌, not, nat_lt, ◌+◌, ◌-◌, ◌*◌, ℕ, refl, sym, ap, ◌∙◌, subst, Bool, true, false, cond, List, [], ◌∷◌, ◌++◌, append_assoc, append-nil, Option, None, Some}
use Rattle.std.specs.Char.{encode_utf8}
use Rattle.std.proofs.lemmas.Bool.Decides.{Decides-eqb}
use Rattle.json_text.specs.Tree.{Json, Str}
use Rattle.json_text.specs.Strings.{SpellsCharacter, SpellsCharacters}
use Rattle.json_text.specs.CharacterSteps.{take_byte, whole, is_scalar, is_within, grow, is_front, next_of_code, next_of_low, hex_digit}
use Rattle.json_text.specs.Stacks.{has_members, stack_named}
use Rattle.json_text.specs.Steps.{Progress, go, end_value, end_text, in_text}
use Rattle.json_text.specs.declared.character.Part.{Part}
use Rattle.json_text.specs.declared.character.Taken.{Taken}
use Rattle.json_text.specs.declared.mode.Mode.{Mode}
use Rattle.json_text.proofs.Cases.{by_cases_of}
use Rattle.json_text.proofs.TextLemmas.{first_character}
use Rattle.json_text.proofs.Completion.{Finishes, FinishesOn, EndsPart, EndsText, TextDue, BehindText}
use Rattle.json_text.proofs.BackMembers.{stands_closes}
use Rattle.json_text.proofs.BackSteps.{CompletesIt, made, it_is, moved}
use Rattle.json_text.proofs.BackRun.{TextBack}

-- the bytes of a whole character spell it
abbrev pub DueBack : Type 0
DueBack = (text : List ℕ) (character : ℕ) → Finishes text character Part.Due → SpellsCharacter text (encode_utf8 character)

pub ends_text : DueBack → (part : Part) (bytes text : List ℕ) → EndsPart part bytes text → EndsText part bytes text
ends_text due Part.Due bytes text v =
    subst (λ (bs : List ℕ). SpellsCharacters bs text) (sym v.bytes_are) (subst (λ (ts : List ℕ). SpellsCharacters (encode_utf8 v.character ++ v.more) ts) (sym v.text_is)
    (first_character (encode_utf8 v.character) v.front [] (due v.front v.character v.first) v.more v.text_behind v.others))
ends_text due (Part.Utf8 left front) bytes text v = v
ends_text due Part.Escape bytes text v = v
ends_text due (Part.Code digits value) bytes text v = v
ends_text due (Part.High high) bytes text v = v
ends_text due (Part.Slash high) bytes text v = v
ends_text due (Part.Low high digits value) bytes text v = v

-- a part that has begun
abbrev HasBegun : Part → Type 0
HasBegun Part.Due = ⊥
HasBegun (Part.Utf8 left front) = Unit {0}
HasBegun Part.Escape = Unit {0}
HasBegun (Part.Code digits value) = Unit {0}
HasBegun (Part.High high) = Unit {0}
HasBegun (Part.Slash high) = Unit {0}
HasBegun (Part.Low high digits value) = Unit {0}

ends_part : (part : Part) (bytes text : List ℕ) → HasBegun part → EndsText part bytes text → EndsPart part bytes text
ends_part Part.Due bytes text begun v = absurd begun
ends_part (Part.Utf8 left front) bytes text begun v = v
ends_part Part.Escape bytes text begun v = v
ends_part (Part.Code digits value) bytes text begun v = v
ends_part (Part.High high) bytes text begun v = v
ends_part (Part.Slash high) bytes text begun v = v
ends_part (Part.Low high digits value) bytes text begun v = v

-- what a byte makes of a character has begun, and a quote ends a text only where a character is due
abbrev Orderly : Part → ℕ → Option Taken → Type 0
Orderly part b None = Unit {0}
Orderly part b (Some (Taken.More next)) = HasBegun next
Orderly part b (Some (Taken.Whole character)) = Unit {0}
Orderly part b (Some Taken.Quote) = (part ≡ Part.Due) × (b ≡ 34)

orderly_if : (part : Part) (b : ℕ) (c : Bool) (x y : Option Taken) → Orderly part b x → Orderly part b y → Orderly part b (cond c x y)
orderly_if part b true x y h k = h
orderly_if part b false x y h k = k

whole_orderly : (part : Part) (b code : ℕ) → Orderly part b (whole code)
whole_orderly part b code = orderly_if part b (is_scalar code) _ _ tt tt

grown_orderly : (part : Part) (b left front : ℕ) → Orderly part b (grow left front)
grown_orderly part b left front = orderly_if part b (left == 0) _ _ (whole_orderly part b front) (orderly_if part b (is_front left front) _ _ tt tt)

code_orderly : (part : Part) (b digits value : ℕ) (o : Option ℕ) → Orderly part b (next_of_code digits value o)
code_orderly part b digits value None = tt
code_orderly part b digits value (Some digit) =
    orderly_if part b ((digits == 1) && is_within 220 223 (value * 16 + digit)) _ _ tt
    (orderly_if part b (nat_lt digits 3) _ _ tt (orderly_if part b (is_within 55296 56319 (value * 16 + digit)) _ _ tt (whole_orderly part b (value * 16 + digit))))

low_orderly : (part : Part) (b high digits value : ℕ) (o : Option ℕ) → Orderly part b (next_of_low high digits value o)
low_orderly part b high digits value None = tt
low_orderly part b high digits value (Some digit) =
    orderly_if part b (((digits == 0) && not (value * 16 + digit == 13)) || ((digits == 1) && nat_lt (value * 16 + digit) 220)) _ _ tt
    (orderly_if part b (nat_lt digits 3) _ _ tt (whole_orderly part b (65536 + (high - 55296) * 1024 + (value * 16 + digit - 56320))))

orderly : (part : Part) (b : ℕ) → Orderly part b (take_byte part b)
orderly Part.Due b =
    by_cases_of (b == 34) _
    (λ f. rw f (refl, (Decides-eqb b 34).0 f))
    (λ f. rw f (orderly_if Part.Due b (b == 92) _ _ tt (orderly_if Part.Due b (is_within 32 127 b) _ _ tt (orderly_if Part.Due b (is_within 194 223 b) _ _ tt
    (orderly_if Part.Due b (is_within 224 239 b) _ _ tt (orderly_if Part.Due b (is_within 240 244 b) _ _ tt tt))))))
orderly (Part.Utf8 left front) b = orderly_if _ b (is_within 128 191 b) _ _ (grown_orderly _ b (left - 1) (front * 64 + (b - 128))) tt
orderly Part.Escape b =
    orderly_if Part.Escape b ((b == 34) || (b == 92) || (b == 47)) _ _ tt (orderly_if Part.Escape b (b == 98) _ _ tt (orderly_if Part.Escape b (b == 102) _ _ tt
    (orderly_if Part.Escape b (b == 110) _ _ tt (orderly_if Part.Escape b (b == 114) _ _ tt (orderly_if Part.Escape b (b == 116) _ _ tt (orderly_if Part.Escape b (b == 117) _ _ tt tt))))))
orderly (Part.Code digits value) b = code_orderly _ b digits value (hex_digit b)
orderly (Part.High high) b = orderly_if _ b (b == 92) _ _ tt tt
orderly (Part.Slash high) b = orderly_if _ b (b == 117) _ _ tt tt
orderly (Part.Low high digits value) b = low_orderly _ b high digits value (hex_digit b)

more_part : (part next : Part) (b : ℕ) (bytes text : List ℕ) → take_byte part b ≡ Some (Taken.More next) → EndsPart next bytes text → EndsPart part bytes (b ∷ text)
more_part part next b bytes text e v = record {
  character = v.character;
  front = b ∷ v.front;
  more = v.more;
  text_behind = v.text_behind;
  others = v.others;
  bytes_are = v.bytes_are;
  first = subst (λ (o : Option Taken). FinishesOn v.front o v.character (λ more. Finishes v.front v.character more)) (sym e) v.first;
  text_is = ap (λ (xs : List ℕ). b ∷ xs) v.text_is;
}

quote_back : (p q : Progress) (tree : Json) (rest : List ℕ) → made (end_text p) ≡ made q → CompletesIt q tree rest → BehindText (has_members p.stack) p.stack (p.token ++ []) tree rest
quote_back p q tree rest e h =
    subst (λ (bytes : List ℕ). BehindText (has_members p.stack) p.stack bytes tree rest) (sym (append-nil p.token))
    (by_cases_of (has_members p.stack) _
    (λ f. let named : Progress = record { mode = Mode.Colon; token = []; stack = stack_named p.token p.stack; root = p.root } in
    let r : made named ≡ made q = sym (rw f refl) ∙ e in
    rw f (moved named q tree rest (it_is _ q r) h))
    (λ f. let r : made (end_value (Str p.token) p) ≡ made q = sym (rw f refl) ∙ e in
    rw f (stands_closes p.stack p.root (Str p.token) tree rest (moved (end_value (Str p.token) p) q tree rest (it_is _ q r) h))))

pub text_back : DueBack → TextBack
text_back due b part p q tree rest e h = cases (take_byte part b) refl e
  where
    cases : (o : Option Taken) → take_byte part b ≡ o → in_text o p ≡ made q → TextDue part p.token p.stack tree (b ∷ rest)
    cases None f g = absurd (let bad : in_text None p ≡ made q = g in cc)
    cases (Some (Taken.More next)) f g =
        let v = moved (go (Mode.Text next) p) q tree rest (it_is _ q g) h in
        record {
          bytes = v.bytes;
          text = b ∷ v.text;
          behind = v.behind;
          next = v.next;
          parts = ap (λ (xs : List ℕ). b ∷ xs) v.parts;
          spelled = ends_text due part v.bytes (b ∷ v.text) (more_part part next b v.bytes v.text f (ends_part next v.bytes v.text (subst (λ (o : Option Taken). Orderly part b o) f (orderly part b)) v.spelled));
        }
    cases (Some (Taken.Whole c)) f g =
        let v = moved _ q tree rest (it_is _ q g) h in
        record {
          bytes = encode_utf8 c ++ v.bytes;
          text = b ∷ v.text;
          behind = v.behind;
          parts = ap (λ (xs : List ℕ). b ∷ xs) v.parts;
          next = subst (λ (bytes : List ℕ). BehindText (has_members p.stack) p.stack bytes tree v.behind) (append_assoc p.token (encode_utf8 c) v.bytes) v.next;
          spelled = ends_text due part (encode_utf8 c ++ v.bytes) (b ∷ v.text) (record {
            character = c;
            front = b ∷ [];
            more = v.bytes;
            text_behind = v.text;
            others = v.spelled;
            text_is = refl;
            bytes_are = refl;
            first = subst (λ (o : Option Taken). FinishesOn [] o c (λ more. Finishes [] c more)) (sym f) (refl, refl);
          });
        }
    cases (Some Taken.Quote) f g =
        let ends : (part ≡ Part.Due) × (b ≡ 34) = subst (λ (o : Option Taken). Orderly part b o) f (orderly part b) in
        record {
          bytes = [];
          text = [];
          behind = rest;
          next = quote_back p q tree rest g h;
          parts = ap (λ (x : ℕ). x ∷ rest) ends.1;
          spelled = subst (λ (x : Part). EndsText x [] []) (sym ends.0) (record { characters = []; each = tt; text_is = refl; bytes_are = refl });
        }
