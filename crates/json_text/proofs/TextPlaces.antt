-- What each byte of a text in quotes does to where the next byte stands.
use Rattle.std.proofs.Common.{◌≡◌, ◌==◌, ◌&&◌, ◌||◌, not, nat_lt, ◌+◌, ◌-◌, ◌*◌, ℕ, refl, sym, ap, ◌∙◌, Bool, true, false, cond, Option, None, Some}
use Rattle.std.proofs.lemmas.Bool.Decides.{Decides-eqb}
use Rattle.json_text.specs.Faults.{Place}
use Rattle.json_text.specs.Faults.Place.{Outside, Quoted, Escaped}
use Rattle.json_text.specs.CharacterSteps.{take_byte, whole, is_scalar, is_within, grow, is_front, next_of_code, next_of_low, hex_digit}
use Rattle.json_text.specs.declared.character.Part.{Part}
use Rattle.json_text.specs.declared.character.Taken.{Taken}
use Rattle.json_text.proofs.Cases.{by_cases_of}
use Rattle.json_text.proofs.Places.{place_in, Counts, at_byte, quoted_byte}

-- what a byte made of a character tells where the next byte stands
abbrev pub Turns : Place → ℕ → ℕ → Option Taken → Type 0
Turns place n b None = Unit {0}
Turns place n b (Some (Taken.More next)) = Counts place n b (place_in next) n
Turns place n b (Some (Taken.Whole character)) = Counts place n b Quoted n
Turns place n b (Some Taken.Quote) = Counts place n b Outside n

turns_if : (place : Place) (n b : ℕ) (c : Bool) (x y : Option Taken) → Turns place n b x → Turns place n b y → Turns place n b (cond c x y)
turns_if place n b true x y h k = h
turns_if place n b false x y h k = k

whole_turns : (place : Place) (n b code : ℕ) → Counts place n b Quoted n → Turns place n b (whole code)
whole_turns place n b code h = turns_if place n b (is_scalar code) _ _ h tt

grown_turns : (n b left front : ℕ) → Counts Quoted n b Quoted n → Turns Quoted n b (grow left front)
grown_turns n b left front h = turns_if Quoted n b (left == 0) _ _ (whole_turns Quoted n b front h) (turns_if Quoted n b (is_front left front) _ _ h tt)

-- a hex digit is no quote and no backslash
digit_stays : (n b digit : ℕ) → hex_digit b ≡ Some digit → Counts Quoted n b Quoted n
digit_stays n b digit e = quoted_byte n b (other 34 refl) (other 92 refl)
  where
    other : (c : ℕ) → hex_digit c ≡ None → (b == c) ≡ false
    other c f = by_cases_of (b == c) _ (λ s. let same : b ≡ c = (Decides-eqb b c).0 s in let bad : Some digit ≡ None = sym e ∙ ap hex_digit same ∙ f in cc) (λ s. s)

code_turns : (n b digits value : ℕ) (o : Option ℕ) → hex_digit b ≡ o → Turns Quoted n b (next_of_code digits value o)
code_turns n b digits value None e = tt
code_turns n b digits value (Some digit) e =
    let stays = digit_stays n b digit e in
    turns_if Quoted n b ((digits == 1) && is_within 220 223 (value * 16 + digit)) _ _ tt
    (turns_if Quoted n b (nat_lt digits 3) _ _ stays
    (turns_if Quoted n b (is_within 55296 56319 (value * 16 + digit)) _ _ stays (whole_turns Quoted n b (value * 16 + digit) stays)))

low_turns : (n b high digits value : ℕ) (o : Option ℕ) → hex_digit b ≡ o → Turns Quoted n b (next_of_low high digits value o)
low_turns n b high digits value None e = tt
low_turns n b high digits value (Some digit) e =
    let stays = digit_stays n b digit e in
    turns_if Quoted n b (((digits == 0) && not (value * 16 + digit == 13)) || ((digits == 1) && nat_lt (value * 16 + digit) 220)) _ _ tt
    (turns_if Quoted n b (nat_lt digits 3) _ _ stays (whole_turns Quoted n b (65536 + (high - 55296) * 1024 + (value * 16 + digit - 56320)) stays))

-- each byte that some part takes
pub turns : (part : Part) (n b : ℕ) → Turns (place_in part) n b (take_byte part b)
turns Part.Due n b =
    by_cases_of (b == 34) _
    (λ f. rw f (at_byte Quoted n b 34 Outside n f (λ rest. refl)))
    (λ f. by_cases_of (b == 92) _
    (λ g. rw (f, g) (at_byte Quoted n b 92 Escaped n g (λ rest. refl)))
    (λ g. let stays = quoted_byte n b f g in
    rw (f, g) (turns_if Quoted n b (is_within 32 127 b) _ _ stays (turns_if Quoted n b (is_within 194 223 b) _ _ stays
    (turns_if Quoted n b (is_within 224 239 b) _ _ stays (turns_if Quoted n b (is_within 240 244 b) _ _ stays tt))))))
turns (Part.Utf8 left front) n b =
    by_cases_of (is_within 128 191 b) _
    (λ f. rw f (grown_turns n b (left - 1) (front * 64 + (b - 128)) (quoted_byte n b (other_byte 34 f refl) (other_byte 92 f refl))))
    (λ f. rw f tt)
  where
    other_byte : (c : ℕ) → is_within 128 191 b ≡ true → is_within 128 191 c ≡ false → (b == c) ≡ false
    other_byte c e f = by_cases_of (b == c) _ (λ s. let same : b ≡ c = (Decides-eqb b c).0 s in let bad : true ≡ false = sym e ∙ ap (is_within 128 191) same ∙ f in cc) (λ s. s)
turns Part.Escape n b =
    turns_if Escaped n b ((b == 34) || (b == 92) || (b == 47)) _ _ any (turns_if Escaped n b (b == 98) _ _ any (turns_if Escaped n b (b == 102) _ _ any
    (turns_if Escaped n b (b == 110) _ _ any (turns_if Escaped n b (b == 114) _ _ any (turns_if Escaped n b (b == 116) _ _ any (turns_if Escaped n b (b == 117) _ _ any tt))))))
  where
    any : Counts Escaped n b Quoted n
    any rest = refl
turns (Part.Code digits value) n b = code_turns n b digits value (hex_digit b) refl
turns (Part.High high) n b = by_cases_of (b == 92) _ (λ f. rw f (at_byte Quoted n b 92 Escaped n f (λ rest. refl))) (λ f. rw f tt)
turns (Part.Slash high) n b = turns_if Escaped n b (b == 117) _ _ (λ rest. refl) tt
turns (Part.Low high digits value) n b = low_turns n b high digits value (hex_digit b) refl
