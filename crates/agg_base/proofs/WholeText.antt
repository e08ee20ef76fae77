-- A text of an optional minus and digits, and a point with zeros behind it.
use Rattle.std.proofs.Common.{◌≡◌, ◌≢◌, ℕ, zero, suc, ◌<◌, Bool, true, false, cond, nat_lt, ◌==◌, ℤ, FitsSigned, List, [], ◌∷◌, ◌++◌, length, drop, slice_index, arith, rules, refl, ap, sym, ◌∙◌, subst}
use Rattle.std.specs.Int.{w64, IsInRange}
use Rattle.std.specs.List.{list_all}
use Rattle.std.specs.Str.{IsAscii}
use Rattle.std.specs.Char.{is_ascii_digit}
use Rattle.std.specs.Str.Parse.{AllDigits, IsNumeral, digits_value, signed_digits_value, without_leading_sign}
use Rattle.std.proofs.lemmas.Bool.{eqb-true, ne_eqb, ltb-false}
use Rattle.std.proofs.lemmas.List.{get_or_past}
use Rattle.std.proofs.lemmas.Fmt.{IsAscii-from_digits}
use Rattle.std.proofs.lemmas.Str.Parse.{IsNumeralModel, numerals_by_value, not_in_digits}
use Rattle.agg_base.proofs.PointCuts.{HasNoPoint, front_of, front_is}
use Rattle.agg_base.specs.Numbers.{minus_text, zeros_text, number_of, SpellsNumber, SpellsWhole, IsWholeAnswer}
use Rattle.agg_base.specs.declared.numeral.Whole.{Whole}
use Rattle.agg_base.specs.declared.numeral.Whole.TheVariants.{Not, Beyond, Is}

own : IsNumeralModel (λ ds. list_all is_ascii_digit ds ≡ true) (digits_value 10)
own = numerals_by_value _ (search rules)

-- the text behind a leading minus
abbrev pub behind_minus : List ℕ → List ℕ
behind_minus text = cond (slice_index text 0 == 45) (drop 1 text) text

never : (digits : List ℕ) (c : ℕ) → AllDigits 10 digits → ¬ (IsInRange 48 57 c) → 0 < c → (i : ℕ) → slice_index digits i ≢ c
never digits c all out some i same =
    elim (nat_lt i (length digits)) as (λ b. nat_lt i (length digits) ≡ b → ⊥) [
      | true ↦ λ e. not_in_digits own digits c (own.from digits all) out i (search rules) same
      | false ↦ λ e. let past = get_or_past digits i 0 (ltb-false i (length digits) e) in omega arith
    ] refl

not_minus : (digits : List ℕ) → IsNumeral 10 digits → (slice_index digits 0 == 45) ≡ false
not_minus digits is = ne_eqb _ _ (never digits 45 is.1 (λ r. omega arith) (omega arith) 0)

not_plus : (digits : List ℕ) → IsNumeral 10 digits → (slice_index digits 0 == 43) ≡ false
not_plus digits is = ne_eqb _ _ (never digits 43 is.1 (λ r. omega arith) (omega arith) 0)

behind : (minus : Bool) (digits : List ℕ) → IsNumeral 10 digits → behind_minus (minus_text minus ++ digits) ≡ digits
behind true digits is = refl
behind false digits is = rw (not_minus digits is) refl

without_sign : (minus : Bool) (digits : List ℕ) → IsNumeral 10 digits → without_leading_sign (minus_text minus ++ digits) ≡ digits
without_sign true digits is = refl
without_sign false digits is = rw (not_minus digits is, not_plus digits is) refl

number_value : (minus : Bool) (digits : List ℕ) → IsNumeral 10 digits → number_of minus digits ≡ signed_digits_value 10 (minus_text minus ++ digits)
number_value true digits is = refl
number_value false digits is = rw (not_minus digits is, not_plus digits is) refl

pub value_is : (text : List ℕ) (n : ℤ) → SpellsNumber text n → n ≡ signed_digits_value 10 text
value_is text n s = s.value ∙ number_value s.minus s.digits s.numeral ∙ ap (signed_digits_value 10) (sym s.parts)

-- a text spells one number at most
pub one_number : (text : List ℕ) (m n : ℤ) → SpellsNumber text m → SpellsNumber text n → m ≡ n
one_number text m n s t = value_is text m s ∙ sym (value_is text n t)

pub digits_behind : (text : List ℕ) (n : ℤ) → SpellsNumber text n → IsNumeral 10 (behind_minus text)
digits_behind text n s = subst (IsNumeral 10) (sym (behind s.minus s.digits s.numeral) ∙ ap behind_minus (sym s.parts)) s.numeral

pub not_numeral : (text digits : List ℕ) (n : ℤ) → digits ≡ behind_minus text → SpellsNumber text n → (0 < length digits) × (list_all is_ascii_digit digits ≡ true)
not_numeral text digits n e s = let is = subst (IsNumeral 10) (sym e) (digits_behind text n s) in (is.0, own.from digits is.1)

numeral_of : (digits : List ℕ) → 0 < length digits → list_all is_ascii_digit digits ≡ true → IsNumeral 10 digits
numeral_of digits some all = (some, own.to digits all)

-- a text of an optional minus and digits spells their value
spells_behind : (text : List ℕ) → IsNumeral 10 (behind_minus text) → SpellsNumber text (signed_digits_value 10 text)
spells_behind [] is = absurd (omega arith)
spells_behind (c ∷ cs) is =
    elim (c == 45) as (λ b. c == 45 ≡ b → IsNumeral 10 (cond b cs (c ∷ cs)) → SpellsNumber (c ∷ cs) (signed_digits_value 10 (c ∷ cs))) [
      | true ↦ λ e k. subst (λ x. SpellsNumber (x ∷ cs) (signed_digits_value 10 (x ∷ cs))) (sym (eqb-true c 45 e)) (record { minus = true; digits = cs; numeral = k; parts = refl; value = refl })
      | false ↦ λ e k. record { minus = false; digits = c ∷ cs; numeral = k; parts = refl; value = sym (number_value false (c ∷ cs) k) }
    ] refl is

pub spells : (text digits : List ℕ) → digits ≡ behind_minus text → 0 < length digits → list_all is_ascii_digit digits ≡ true → SpellsNumber text (signed_digits_value 10 text)
spells text digits e some all = spells_behind text (subst (IsNumeral 10) e (numeral_of digits some all))

pub sign_is : (text : List ℕ) (n : ℤ) → SpellsNumber text n → IsNumeral 10 (without_leading_sign text)
sign_is text n s = subst (IsNumeral 10) (sym (without_sign s.minus s.digits s.numeral) ∙ ap without_leading_sign (sym s.parts)) s.numeral

ascii_after : (minus : Bool) (digits : List ℕ) → IsAscii digits → IsAscii (minus_text minus ++ digits)
ascii_after true digits all zero = omega arith
ascii_after true digits all (suc i) = all i
ascii_after false digits all i = all i

pub number_is_ascii : (text : List ℕ) (n : ℤ) → SpellsNumber text n → IsAscii text
number_is_ascii text n s = subst IsAscii (sym s.parts) (ascii_after s.minus s.digits (IsAscii-from_digits s.digits s.numeral.1))

no_point_after : (minus : Bool) (digits : List ℕ) → AllDigits 10 digits → HasNoPoint (minus_text minus ++ digits)
no_point_after true digits all zero = λ e. omega arith
no_point_after true digits all (suc i) = never digits 46 all (λ r. omega arith) (omega arith) i
no_point_after false digits all i = never digits 46 all (λ r. omega arith) (omega arith) i

pub number_has_no_point : (text : List ℕ) (n : ℤ) → SpellsNumber text n → HasNoPoint text
number_has_no_point text n s = subst HasNoPoint (sym s.parts) (no_point_after s.minus s.digits s.numeral.1)

front_is_first : (text : List ℕ) (n : ℤ) (s : SpellsWhole text n) → s.front ≡ front_of text
front_is_first text n s = sym (ap front_of s.parts ∙ front_is s.front s.zeros (number_has_no_point s.front n s.number))

-- a text spells one whole number at most
pub one_whole : (text : List ℕ) (m n : ℤ) → SpellsWhole text m → SpellsWhole text n → m ≡ n
one_whole text m n s t =
    one_number (front_of text) m n (subst (λ f. SpellsNumber f m) (front_is_first text m s) s.number) (subst (λ f. SpellsNumber f n) (front_is_first text n t) t.number)

-- what is answered of the front is answered of the whole text
pub answer_of_front : (text front : List ℕ) (w : Whole) → ((zeros : ℕ) × (text ≡ front ++ zeros_text zeros))
    → ((other : List ℕ) (zeros : ℕ) → HasNoPoint other → text ≡ other ++ zeros_text zeros → front ≡ other)
    → IsWholeAnswer (SpellsNumber front) w → IsWholeAnswer (SpellsWhole text) w
answer_of_front text front Not parts only none =
    λ n s. none n (subst (λ f. SpellsNumber f n) (sym (only s.front s.zeros (number_has_no_point s.front n s.number) s.parts)) s.number)
answer_of_front text front Beyond parts only found = (found.0, record { front = front; zeros = parts.0; number = found.1; parts = parts.1 }, found.2)
answer_of_front text front (Is n) parts only found = (record { front = front; zeros = parts.0; number = found.0; parts = parts.1 }, found.1)

pub answer_inside : (text : List ℕ) (w : Whole) (n : ℤ) → IsWholeAnswer (SpellsWhole text) w → SpellsWhole text n → FitsSigned w64 n → w ≡ Is n
answer_inside text Not n answer s fits = absurd (answer n s)
answer_inside text Beyond n answer s fits = absurd (answer.2 (subst (FitsSigned w64) (one_whole text n answer.0 s answer.1) fits))
answer_inside text (Is m) n answer s fits = ap Is (one_whole text m n answer.0 s)

pub answer_outside : (text : List ℕ) (w : Whole) (n : ℤ) → IsWholeAnswer (SpellsWhole text) w → SpellsWhole text n → ¬ (FitsSigned w64 n) → w ≡ Beyond
answer_outside text Not n answer s out = absurd (answer n s)
answer_outside text Beyond n answer s out = refl
answer_outside text (Is m) n answer s out = absurd (out (subst (FitsSigned w64) (one_whole text m n answer.0 s) answer.1))
